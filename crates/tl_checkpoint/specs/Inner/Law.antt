-- The laws as definitions, for proofs.
use Rattle.std.specs.Prelude.{◌≡◌, IsUtf8}
use Rattle.tl_note.specs.Note.{IsNoteText}
use Rattle.tl_checkpoint.specs.Checkpoint.{Head, IsHead, checkpoint_text}

-- two checkpoints with the same text are the same
abbrev pub CheckpointIsOne : Type 0
CheckpointIsOne = (c d : Head) → IsHead c → IsHead d → checkpoint_text c ≡ checkpoint_text d → c ≡ d

-- the text of a checkpoint, in UTF-8, can be signed
abbrev pub CheckpointIsNoteText : Type 0
CheckpointIsNoteText = (c : Head) → IsHead c → IsUtf8 (checkpoint_text c) → IsNoteText (checkpoint_text c)
