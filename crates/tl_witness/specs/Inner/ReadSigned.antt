-- The note of a request, and the checkpoint in it.
use Rattle.std.specs.Prelude.{Result, Ok, Err, ⊤}
use Rattle.tl_hash.specs.Bytes.{Bytes}
use Rattle.tl_checkpoint.specs.Checkpoint.{head_of}
use Rattle.tl_witness.specs.declared.request.RequestFault.{RequestFault}
use Rattle.tl_witness.specs.declared.request.RequestFault.TheVariants.{Malformed, OutOfMemory}
use Rattle.tl_witness.specs.declared.request.SignedCheckpoint.{SignedCheckpoint}
use Rattle.tl_witness.specs.Book.{Signed, IsSigned}

-- the text, signature lines and checkpoint of a signed checkpoint
abbrev pub signed_of : {A : Type 0} → SignedCheckpoint A → Signed
signed_of signed = record { text = signed.note.text.now; lines = signed.note.signatures.items; head = head_of signed.checkpoint }

-- the note and checkpoint that the bytes are, or that they are none
abbrev pub ReadsSigned : {A : Type 0} → Bytes → Result (SignedCheckpoint A) RequestFault → Type 0
ReadsSigned bytes (Ok signed) = IsSigned bytes (signed_of signed)
ReadsSigned bytes (Err Malformed) = (signed : Signed) → ¬ (IsSigned bytes signed)
ReadsSigned bytes (Err OutOfMemory) = ⊤
