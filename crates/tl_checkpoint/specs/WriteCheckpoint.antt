-- What writing a checkpoint returns.
use Rattle.std.specs.Prelude.{◌≡◌, All, Result, Ok, Err, String, string_bytes}
use Rattle.tl_text.specs.Text.{IsSize, IsOneLine}
use Rattle.tl_checkpoint.specs.declared.checkpoint.CheckpointFault.{CheckpointFault}
use Rattle.tl_checkpoint.specs.declared.checkpoint.CheckpointFault.TheVariants.{Lines, Origin, Size, Root, OutOfMemory}
use Rattle.tl_checkpoint.specs.Checkpoint.{Head, IsHead, checkpoint_text}

-- the text, or the first part that has none
abbrev pub WritesCheckpoint : {A : Type 0} → Head → Result (String A) CheckpointFault → Type 0
WritesCheckpoint c (Ok text) = IsHead c × (string_bytes text ≡ checkpoint_text c)
WritesCheckpoint c (Err Lines) = ¬ (All IsOneLine c.extensions)
WritesCheckpoint c (Err Origin) = All IsOneLine c.extensions × ¬ (IsOneLine c.origin)
WritesCheckpoint c (Err Size) = All IsOneLine c.extensions × IsOneLine c.origin × ¬ (IsSize c.size)
WritesCheckpoint c (Err Root) = ⊥
WritesCheckpoint c (Err OutOfMemory) = IsHead c
