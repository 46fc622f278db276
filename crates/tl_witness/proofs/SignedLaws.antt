-- Bytes that are no note of a checkpoint.
use Rattle.std.proofs.Common.{◌≢◌, ℕ, List, ◌∙◌}
use Rattle.std.specs.Prelude.{Err}
use Rattle.tl_note.specs.Note.{Signature, Note}
use Rattle.tl_note.proofs.OneNote.{one_note}
use Rattle.tl_checkpoint.specs.ParseCheckpoint.{ParsesCheckpoint}
use Rattle.tl_checkpoint.specs.declared.checkpoint.CheckpointFault.{CheckpointFault}
use Rattle.tl_checkpoint.specs.declared.checkpoint.CheckpointFault.TheVariants.{OutOfMemory}
use Rattle.tl_checkpoint.proofs.OtherTexts.{no_text}
use Rattle.tl_witness.specs.Book.{Signed, IsSigned}

-- a note whose text is no checkpoint is no signed checkpoint
pub no_signed : (A : Type 0) (bytes text : List ℕ) (lines : List Signature) (fault : CheckpointFault) → Note bytes text lines
    → ParsesCheckpoint {A = A} text (Err fault) → fault ≢ OutOfMemory → (signed : Signed) → ¬ (IsSigned bytes signed)
no_signed A bytes text lines fault note given other signed is =
    let same = one_note bytes text signed.text lines signed.lines note is.note in
    no_text A text signed.head fault is.head (same.0 ∙ is.spelled) given other
