-- Steps of opening a note.
use Rattle.std.specs.Prelude.{◌≡◌, List, Result, Ok, Err}
use Rattle.tl_hash.specs.Bytes.{Bytes}
use Rattle.tl_note.specs.Key.{Key}
use Rattle.tl_note.specs.declared.fault.NoteFault.TheVariants as note
use Rattle.tl_checkpoint.specs.declared.checkpoint.Checkpoint.{Checkpoint}
use Rattle.tl_checkpoint.specs.declared.opening.OpenCheckpointFault.{OpenCheckpointFault}
use Rattle.tl_checkpoint.specs.declared.opening.OpenCheckpointFault.TheVariants as opening
use Rattle.tl_checkpoint.specs.Checkpoint.{head_of}
use Rattle.tl_checkpoint.specs.OpenCheckpoint.{IsSignedCheckpoint}
use Rattle.tl_run.specs.declared.fault.RunFault.{RunFault}
use Rattle.tl_run.specs.declared.fault.RunFault.TheVariants.{BadCheckpoint, WrongSignature, Unverified, OutOfMemory}
use Rattle.tl_run.specs.declared.place.Place.TheVariants.{File}
use Rattle.tl_command.specs.Open.{after_note, IsWrongNote, IsUnknownNote}
use Rattle.tl_command.specs.CheckOpened.{IsNoCheckpoint}

-- the fault of the command for a fault of opening a checkpoint
abbrev pub after_opening : OpenCheckpointFault → RunFault
after_opening (opening.Unopened note.Malformed) = BadCheckpoint File
after_opening (opening.Unopened fault) = after_note fault
after_opening (opening.NoCheckpoint fault) = BadCheckpoint File
after_opening opening.OutOfMemory = OutOfMemory

-- the checkpoint that the bytes are, or why they are none
abbrev pub OpensBytes : {A : Type 0} → Bytes → List Key → Result (Checkpoint A) RunFault → Type 0
OpensBytes bytes keys (Ok c) = IsSignedCheckpoint bytes keys (head_of c)
OpensBytes bytes keys (Err (BadCheckpoint place)) = (place ≡ File) × IsNoCheckpoint bytes
OpensBytes bytes keys (Err (WrongSignature place)) = IsWrongNote keys bytes place
OpensBytes bytes keys (Err Unverified) = IsUnknownNote keys bytes
OpensBytes bytes keys (Err OutOfMemory) = Unit {0}
OpensBytes bytes keys (Err fault) = ⊥
