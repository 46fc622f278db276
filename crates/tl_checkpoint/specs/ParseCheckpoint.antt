-- What reading a checkpoint returns.
use Rattle.std.specs.Prelude.{◌≡◌, ◌≢◌, ◌≤◌, List, [], ◌∷◌, length, drop, All, Result, Ok, Err}
use Rattle.std.specs.List.{flat_map}
use Rattle.tl_hash.specs.Bytes.{Bytes}
use Rattle.tl_text.specs.Text.{line, HasNoControl, IsOneLine}
use Rattle.tl_checkpoint.specs.declared.checkpoint.Checkpoint.{Checkpoint}
use Rattle.tl_checkpoint.specs.declared.checkpoint.CheckpointFault.{CheckpointFault}
use Rattle.tl_checkpoint.specs.declared.checkpoint.CheckpointFault.TheVariants.{Lines, Origin, Size, Root, OutOfMemory}
use Rattle.tl_checkpoint.specs.Checkpoint.{Head, head_of, IsHead, checkpoint_text}
use Rattle.tl_text.specs.Pieces.{IsNoSize, IsNoHash}

-- the text is at least three lines without control characters; those after the third aren't empty
pub record IsInLines (text : Bytes) (lines : List Bytes) : Type 0 where
  pub joined : text ≡ flat_map line lines
  pub plain : All HasNoControl lines
  pub enough : 3 ≤ length lines
  pub extensions : All IsOneLine (drop 3 lines)

-- the text is no such lines
abbrev pub IsInNoLines : Bytes → Type 0
IsInNoLines text = (lines : List Bytes) → IsInLines text lines → ⊥

-- the first lines of the text are these
pub record HasLines (text origin size root : Bytes) : Type 0 where
  pub extensions : List Bytes
  pub lines : IsInLines text (origin ∷ size ∷ root ∷ extensions)

-- the text is a checkpoint's
abbrev pub IsCheckpointText : Bytes → Type 0
IsCheckpointText text = (c : Head) × IsHead c × (text ≡ checkpoint_text c)

-- the checkpoint that has this text, or the first part that is wrong
abbrev pub ParsesCheckpoint : {A : Type 0} → Bytes → Result (Checkpoint A) CheckpointFault → Type 0
ParsesCheckpoint text (Ok c) = IsHead (head_of c) × (text ≡ checkpoint_text (head_of c))
ParsesCheckpoint text (Err Lines) = IsInNoLines text
ParsesCheckpoint text (Err Origin) = (size : Bytes) × (root : Bytes) × HasLines text [] size root
ParsesCheckpoint text (Err Size) = (origin : Bytes) × (size : Bytes) × (root : Bytes) × HasLines text origin size root × (origin ≢ []) × IsNoSize size
ParsesCheckpoint text (Err Root) = (origin : Bytes) × (size : Bytes) × (root : Bytes) × HasLines text origin size root × (origin ≢ []) × (IsNoSize size → ⊥) × IsNoHash root
ParsesCheckpoint text (Err OutOfMemory) = IsCheckpointText text
