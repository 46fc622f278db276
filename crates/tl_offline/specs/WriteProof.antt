-- What writing a proof answers.
use Rattle.std.specs.Prelude.{◌≡◌, ◌<◌, ◌≤◌, length, Result, Ok, Err, String, string_bytes}
use Rattle.tl_text.specs.Text.{IsSize}
use Rattle.tl_offline.specs.declared.proof.WriteFault.{WriteFault}
use Rattle.tl_offline.specs.declared.proof.WriteFault.TheVariants.{Index, TooMany, OutOfMemory}
use Rattle.tl_offline.specs.ProofText.{TlogProof, IsProof, proof_text}

-- the text, or the first part that has none
abbrev pub WritesProof : {A : Type 0} → TlogProof → Result (String A) WriteFault → Type 0
WritesProof p (Ok text) = IsProof p × (string_bytes text ≡ proof_text p)
WritesProof p (Err Index) = ¬ (IsSize p.index)
WritesProof p (Err TooMany) = IsSize p.index × (63 < length p.hashes)
WritesProof p (Err OutOfMemory) = IsSize p.index × (length p.hashes ≤ 63)
