-- The fault of a signed checkpoint for a fault of its note or of its text.
use Rattle.tl_note.specs.declared.fault.NoteFault.{NoteFault}
use Rattle.tl_note.specs.declared.fault.NoteFault.TheVariants as note
use Rattle.tl_checkpoint.specs.declared.checkpoint.CheckpointFault.{CheckpointFault}
use Rattle.tl_checkpoint.specs.declared.checkpoint.CheckpointFault.TheVariants as checkpoint
use Rattle.tl_checkpoint.specs.declared.opening.OpenCheckpointFault.{OpenCheckpointFault}
use Rattle.tl_checkpoint.specs.declared.opening.OpenCheckpointFault.TheVariants.{Unopened, NoCheckpoint, OutOfMemory}

abbrev pub after_note : NoteFault → OpenCheckpointFault
after_note note.OutOfMemory = OutOfMemory
after_note fault = Unopened fault

abbrev pub after_text : CheckpointFault → OpenCheckpointFault
after_text checkpoint.OutOfMemory = OutOfMemory
after_text fault = NoCheckpoint fault
