-- Signing the checkpoint of a size and a root.
use Rattle.std.specs.Prelude.{◌≡◌, ℕ, List, [], Result, Ok, Err, String, string_bytes, ⊤}
use Rattle.std.specs.Global.{Global}
use Rattle.tl_note.specs.Key.{SigningKey}
use Rattle.tl_note.specs.SignNote.{MayFail}
use Rattle.tl_note.specs.declared.fault.NoteFault.{NoteFault}
use Rattle.tl_note.specs.declared.fault.NoteFault.TheVariants as note
use Rattle.tl_checkpoint.specs.Checkpoint.{checkpoint_text}
use Rattle.tl_publisher.specs.declared.fault.PublishFault.{PublishFault}
use Rattle.tl_publisher.specs.declared.fault.PublishFault.TheVariants.{NothingNew, Sign, Quorum, OutOfMemory}
use Rattle.tl_publisher.specs.Signed.{IsSignedNote, no_quorum}

-- the text of the checkpoint of this size and root
abbrev pub text_of_head : List ℕ → ℕ → List ℕ → List ℕ
text_of_head origin size root = checkpoint_text (record { origin = origin; size = size; root = root; extensions = [] })

-- the signed note of a checkpoint, or the position of a signer that gave no signature
abbrev pub NotesHead : List ℕ → List SigningKey → ℕ → List ℕ → Result (String Global) PublishFault → Type 0
NotesHead origin signers size root (Ok note) = IsSignedNote signers no_quorum (text_of_head origin size root) (string_bytes note)
NotesHead origin signers size root (Err NothingNew) = ⊥
NotesHead origin signers size root (Err (Sign place)) = MayFail (text_of_head origin size root) signers place
NotesHead origin signers size root (Err Quorum) = ⊥
NotesHead origin signers size root (Err OutOfMemory) = ⊤

-- a fault of signing that lawful signers of a lawful text can give
abbrev pub IsSignFault : NoteFault → Type 0
IsSignFault (note.Sign place) = ⊤
IsSignFault note.OutOfMemory = ⊤
IsSignFault fault = ⊥

-- the fault of a publication that the fault of signing becomes
abbrev pub AsPublishFault : NoteFault → PublishFault → Type 0
AsPublishFault (note.Sign place) fault = fault ≡ Sign place
AsPublishFault note.OutOfMemory fault = fault ≡ OutOfMemory
AsPublishFault other fault = ⊥
