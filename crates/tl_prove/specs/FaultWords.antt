-- What a fault of `verify`, `prove` or `submit` prints, and its exit status.
use Rattle.std.specs.Prelude.{ℕ, codes}
use Rattle.tl_hash.specs.Bytes.{Bytes}
use Rattle.tl_device.specs.Faults.{device_words}
use Rattle.tl_run.specs.Faults.{device_status}
use Rattle.tl_fetch.specs.FaultWords.{fetch_status, fetch_words}
use Rattle.tl_offline.specs.FaultWords.{entry_words, proof_words}
use Rattle.tl_policy.specs.FaultWords.{policy_words, trust_words}
use Rattle.tl_prove.specs.declared.fault.Refusal.{Refusal}
use Rattle.tl_prove.specs.declared.fault.Refusal.TheVariants as why
use Rattle.tl_prove.specs.declared.fault.ProveFault.{ProveFault}
use Rattle.tl_prove.specs.declared.fault.ProveFault.TheVariants.{Fetch, File, PolicyNotText, Policy, Refused, Untrusted, NoEntry, NoExtra, NotPosted, NoIndex, TooLate}

-- the words for a proof that isn't accepted
abbrev pub refusal_words : Refusal → Bytes
refusal_words why.NotText = codes "the proof isn't UTF-8"
refusal_words (why.Proof fault) = proof_words fault
refusal_words (why.Trust fault) = trust_words fault
refusal_words (why.Entry fault) = entry_words fault
refusal_words why.OutOfMemory = codes "out of memory"

-- the words for a fault
abbrev pub prove_words : ProveFault → Bytes
prove_words (Fetch fault) = fetch_words fault
prove_words (File which why) = device_words why
prove_words PolicyNotText = codes "not UTF-8"
prove_words (Policy fault) = policy_words fault
prove_words (Refused why) = refusal_words why
prove_words (Untrusted fault) = trust_words fault
prove_words NoEntry = codes "no such entry"
prove_words NoExtra = codes "the proof has no extra data"
prove_words (NotPosted why) = device_words why
prove_words NoIndex = codes "the log's answer isn't an index"
prove_words TooLate = codes "no checkpoint has the entry in time"

-- the exit status: that of `fetch`, for its faults; 3 if a file failed, or the log didn't answer or not in time; else 1
abbrev pub prove_status : ProveFault → ℕ
prove_status (Fetch fault) = fetch_status fault
prove_status (File which why) = device_status why
prove_status (NotPosted why) = 3
prove_status TooLate = 3
prove_status _ = 1
