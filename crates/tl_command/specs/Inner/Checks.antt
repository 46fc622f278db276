-- What `check` finds in the text of a proof.
use Rattle.std.specs.Prelude.{◌≡◌, ◌≢◌, ◌<◌, ◌↔◌, List, length, codes, Bool, true, false, IsTrue, Result, Ok, Err}
use Rattle.sha2.specs.Sha256.{sha256}
use Rattle.tl_hash.specs.Bytes.{Bytes}
use Rattle.tl_text.specs.Text.{line}
use Rattle.tl_device.specs.Device.{Passage, WroteWhole, WrotePart}
use Rattle.tl_command.specs.Lines.{entries_of, lines_text}
use Rattle.tl_command.specs.ProofText.{Proof, IsProof, proof_lines, proof_text, proof_size, proof_root, proof_leaf, Accepts}
use Rattle.tl_command.specs.ProofCommands.{Subject, AreOf}
use Rattle.tl_command.specs.declared.commands.check.Finding.{Finding}
use Rattle.tl_run.specs.declared.fault.RunFault.{RunFault}
use Rattle.tl_run.specs.declared.fault.RunFault.TheVariants.{Refused, Write, Malformed, OutOfMemory}

-- the finding says whether the proof is accepted, and what it is about
pub record IsFinding (p : Proof) (c : Finding) : Type 0 where
  pub says : IsTrue c.accepted ↔ Accepts sha256 p
  pub size : c.size ≡ proof_size p
  pub root : c.root ≡ proof_root p
  pub leaf : c.leaf ≡ proof_leaf p

-- the lines are those of a proof with this finding
pub record HasFinding (lines : List Bytes) (c : Finding) : Type 0 where
  pub proof : Proof
  pub lawful : IsProof proof
  pub spelled : lines ≡ proof_lines proof
  pub finding : IsFinding proof c

-- the finding in a text: that of its proof, or that it is no proof's text
abbrev pub FindsInText : Bytes → Result Finding RunFault → Type 0
FindsInText text (Ok c) = HasFinding (entries_of text) c × (text ≡ lines_text (entries_of text))
FindsInText text (Err Malformed) = (p : Proof) → IsProof p → text ≢ proof_text p
FindsInText text (Err OutOfMemory) = 0 < length text
FindsInText text (Err fault) = ⊥

-- the finding is that of an accepted proof about the subject
abbrev pub IsFindingAbout : Subject → Finding → Type 0
IsFindingAbout s c = IsTrue c.accepted × AreOf s c.size c.root c.leaf

-- the line that says whether a proof is good
abbrev pub answer_line : Bool → Bytes
answer_line true = line (codes "accepted")
answer_line false = line (codes "refused")

-- printing the line that says whether a proof is good
abbrev pub PrintsAnswer : Bool → Passage → Result (Unit {0}) RunFault → Type 0
PrintsAnswer is_good o (Ok done) = (is_good ≡ true) × WroteWhole o (answer_line is_good)
PrintsAnswer is_good o (Err Refused) = (is_good ≡ false) × WroteWhole o (answer_line is_good)
PrintsAnswer is_good o (Err Write) = WrotePart o (answer_line is_good)
PrintsAnswer is_good o (Err fault) = ⊥
