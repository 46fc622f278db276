-- What `verify` does with a policy, an entry and its input.
use Rattle.std.specs.Prelude.{◌≡◌, ◌≢◌, ◌⊎◌, ℕ, List, Option, Result, Ok, Err, option_map, vec_items}
use Rattle.std.specs.Global.{Global}
use Rattle.sha2.specs.Sha256.{sha256}
use Rattle.tl_hash.specs.Bytes.{Bytes}
use Rattle.tl_hash.specs.Tree.{leaf_input}
use Rattle.tl_device.specs.Device.{Passage, IsSteady, IsUnread, IsUnwritten, ReadWhole, WrotePart, WroteWhole}
use Rattle.tl_run.specs.Run.{ReadingFails, most_input}
use Rattle.tl_run.specs.declared.fault.RunFault.TheVariants as run
use Rattle.tl_fetch.specs.declared.fault.FetchFault.TheVariants as fetch
use Rattle.tl_policy.specs.Terms.{Terms}
use Rattle.tl_policy.specs.ReadPolicy.{ReadsPolicy}
use Rattle.tl_prove.specs.Accepted.{accepted_text}
use Rattle.tl_prove.specs.Entry.{IsGiven}
use Rattle.tl_prove.specs.Faults.{IsOfFile, IsOfPolicy, out_of_memory}
use Rattle.tl_prove.specs.Policies.{FailsExtra, RefusesPolicy}
use Rattle.tl_prove.specs.Verify.{Verifies}
use Rattle.tl_prove.specs.declared.fault.NamedFile.TheVariants.{Entry}
use Rattle.tl_prove.specs.declared.fault.ProveFault.{ProveFault}
use Rattle.tl_prove.specs.declared.fault.ProveFault.TheVariants as fault
use Rattle.tl_prove.specs.declared.fault.Refusal.{Refusal}
use Rattle.tl_prove.specs.declared.fault.Refusal.TheVariants as why
use Rattle.tl_prove.specs.declared.options.VerifyOptions.{VerifyOptions}
use Rattle.tl_prove.specs.declared.verifying.Verified.{Verified}

-- the whole input was read, and this comes of it for the entry with this leaf hash
abbrev pub VerifiesWhole : {A : Type 0} → Terms → Bytes → Passage → Result (Verified A) Refusal → Type 0
VerifiesWhole p leaf i outcome = (input : Bytes) × ReadWhole i most_input input × Verifies p leaf input outcome

-- why an input shows nothing of an entry: it can't be read, memory ran out, or it isn't accepted
abbrev pub RefusesInput : Terms → Bytes → Passage → ProveFault → Type 0
RefusesInput p leaf i (fault.Refused reason) = VerifiesWhole {A = Global} p leaf i (Err reason) × (reason ≢ why.OutOfMemory)
RefusesInput p leaf i (fault.Fetch (fetch.Run run.OutOfMemory)) = IsSteady i
RefusesInput p leaf i (fault.Fetch (fetch.Run reason)) = ReadingFails most_input i reason
RefusesInput p leaf i reason = ⊥

-- reading an input, and what it shows
abbrev pub VerifiesInput : Terms → Bytes → Passage → Result (Verified Global) ProveFault → Type 0
VerifiesInput p leaf i (Ok v) = VerifiesWhole p leaf i (Ok v)
VerifiesInput p leaf i (Err reason) = RefusesInput p leaf i reason

-- what is printed of an accepted proof
abbrev pub shown : {A : Type 0} → Terms → Verified A → Bytes
shown p v = accepted_text p.witnesses v.trusted.checkpoint.size v.index (vec_items v.trusted.times)

-- printing it: the whole text is written, or the writer fails within it, or memory ran out
abbrev pub PrintsAccepted : {A : Type 0} → Terms → Verified A → Passage → Result (Unit {0}) ProveFault → Type 0
PrintsAccepted p v o (Ok done) = WroteWhole o (shown p v)
PrintsAccepted p v o (Err (fault.Fetch (fetch.Run run.Write))) = WrotePart o (shown p v)
PrintsAccepted p v o (Err reason) = (reason ≡ out_of_memory) × IsUnwritten o

-- the proof is accepted, and what follows of it fails: writing its extra data, or printing
abbrev pub FailsAccepted : Terms → Bytes → Passage → Passage → ProveFault → Type 0
FailsAccepted p leaf i o reason =
    (v : Verified Global) × VerifiesWhole p leaf i (Ok v)
    × ((FailsExtra (option_map vec_items v.extra) reason × IsUnwritten o) ⊎ PrintsAccepted p v o (Err reason))

-- a run with the policy of a text, for an entry
abbrev pub VerifiesBy : Bytes → Bytes → Passage → Passage → Result (Unit {0}) ProveFault → Type 0
VerifiesBy policy entry i o (Ok done) =
    (p : Terms) × ReadsPolicy policy (Ok p)
    × ((v : Verified Global) × VerifiesWhole p (sha256 (leaf_input entry)) i (Ok v) × WroteWhole o (shown p v))
VerifiesBy policy entry i o (Err reason) =
    (RefusesPolicy policy reason × IsUnread i × IsUnwritten o)
    ⊎ ((p : Terms) × ReadsPolicy policy (Ok p)
    × ((RefusesInput p (sha256 (leaf_input entry)) i reason × IsUnwritten o) ⊎ FailsAccepted p (sha256 (leaf_input entry)) i o reason))

-- a run: the bytes of its files decide, or one of them can't be read, and then nothing else is done
abbrev pub RunsVerify : VerifyOptions → Passage → Passage → Result (Unit {0}) ProveFault → Type 0
RunsVerify options i o result =
    ((policy : Bytes) × (entry : Bytes) × IsGiven options.entry entry × VerifiesBy policy entry i o result)
    ⊎ ((reason : ProveFault) × (result ≡ Err reason) × (IsOfPolicy reason ⊎ IsOfFile Entry reason) × IsUnread i × IsUnwritten o)
