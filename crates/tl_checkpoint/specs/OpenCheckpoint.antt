-- What opening a signed checkpoint returns (C2SP tlog-checkpoint; signed-note, "Verification").
use Rattle.std.specs.Prelude.{◌≢◌, List, Result, Ok, Err}
use Rattle.tl_hash.specs.Bytes.{Bytes}
use Rattle.tl_note.specs.Key.{Key}
use Rattle.tl_note.specs.Note.{Signature, Note, IsNote}
use Rattle.tl_note.specs.Open.{Opened}
use Rattle.tl_note.specs.OpenNote.{OpensNote}
use Rattle.tl_note.specs.declared.fault.NoteFault.{NoteFault}
use Rattle.tl_note.specs.declared.fault.NoteFault.TheVariants as note
use Rattle.tl_checkpoint.specs.declared.checkpoint.Checkpoint.{Checkpoint}
use Rattle.tl_checkpoint.specs.declared.checkpoint.CheckpointFault.{CheckpointFault}
use Rattle.tl_checkpoint.specs.declared.checkpoint.CheckpointFault.TheVariants as checkpoint
use Rattle.tl_checkpoint.specs.declared.opening.OpenCheckpointFault.{OpenCheckpointFault}
use Rattle.tl_checkpoint.specs.declared.opening.OpenCheckpointFault.TheVariants.{Unopened, NoCheckpoint, OutOfMemory}
use Rattle.tl_checkpoint.specs.Checkpoint.{Head, head_of, IsHead, checkpoint_text}
use Rattle.tl_checkpoint.specs.ParseCheckpoint.{ParsesCheckpoint}

-- the bytes are a note of this checkpoint, and it opens under these keys
pub record IsSignedCheckpoint (bytes : Bytes) (keys : List Key) (c : Head) : Type 0 where
  pub lines : List Signature
  pub stated : IsHead c
  pub noted : Note bytes (checkpoint_text c) lines
  pub opens : Opened keys (checkpoint_text c) lines

-- the bytes are a note that opens, but its text is no checkpoint's, for this reason
pub record HasOtherText (A : Type 0) (bytes : Bytes) (keys : List Key) (fault : CheckpointFault) : Type 0 where
  pub text : Bytes
  pub lines : List Signature
  pub noted : Note bytes text lines
  pub opens : Opened keys text lines
  pub parsed : ParsesCheckpoint {A = A} text (Err fault)

-- the checkpoint, or why the bytes are no such note; memory is allocated only for a note
abbrev pub OpensCheckpoint : {A : Type 0} → Bytes → List Key → Result (Checkpoint A) OpenCheckpointFault → Type 0
OpensCheckpoint bytes keys (Ok c) = IsSignedCheckpoint bytes keys (head_of c)
OpensCheckpoint {A = A} bytes keys (Err (Unopened fault)) = OpensNote {A = A} bytes keys (Err fault) × (fault ≢ note.OutOfMemory)
OpensCheckpoint {A = A} bytes keys (Err (NoCheckpoint fault)) = HasOtherText A bytes keys fault × (fault ≢ checkpoint.OutOfMemory)
OpensCheckpoint bytes keys (Err OutOfMemory) = IsNote bytes
