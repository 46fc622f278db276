-- A checkpoint or a note that no log is opened from.
use Rattle.std.proofs.Common.{◌≡◌, inr, Bool, true, List, Some, Err}
use Rattle.std.specs.Global.{Global}
use Rattle.tl_hash.specs.Bytes.{Bytes}
use Rattle.tl_tile.specs.declared.resource.Resource.{Resource}
use Rattle.tl_tile.specs.declared.resource.Resource.TheVariants as resource
use Rattle.tl_note.specs.Key.{Key}
use Rattle.tl_note.specs.OpenNote.{OpensNote}
use Rattle.tl_note.specs.declared.fault.NoteFault.{NoteFault}
use Rattle.tl_note.specs.declared.fault.NoteFault.TheVariants as note_fault
use Rattle.tl_checkpoint.specs.OpenCheckpoint.{OpensCheckpoint}
use Rattle.tl_checkpoint.specs.ParseCheckpoint.{ParsesCheckpoint}
use Rattle.tl_checkpoint.specs.declared.checkpoint.CheckpointFault.{CheckpointFault}
use Rattle.tl_checkpoint.specs.declared.checkpoint.CheckpointFault.TheVariants as checkpoint_fault
use Rattle.tl_checkpoint.specs.declared.opening.OpenCheckpointFault.{OpenCheckpointFault}
use Rattle.tl_checkpoint.specs.declared.opening.OpenCheckpointFault.TheVariants as unopened
use Rattle.tl_archive.specs.Shelves.{Held}
use Rattle.tl_archive.specs.declared.fault.ShelfFault.{ShelfFault}
use Rattle.tl_ledger.specs.Opening.{Found}
use Rattle.tl_ledger.specs.Inner.Restoring.{FindsNone, StatesNone}
use Rattle.tl_ledger.specs.declared.opened.fault.OpenFault.{OpenFault}
use Rattle.tl_ledger.specs.declared.opened.fault.OpenFault.TheVariants as opening
use Rattle.tl_ledger.specs.OpenFaults.{OpenNoteFails}

note_any : (A : Type 0) (note : Bytes) (keys : List Key) (why : NoteFault) → OpensNote {A = A} note keys (Err why) → OpensNote {A = Global} note keys (Err why)
note_any A note keys note_fault.Malformed is = is
note_any A note keys (note_fault.BadName place) is = is
note_any A note keys (note_fault.Ambiguous place) is = is
note_any A note keys (note_fault.InvalidSignature place) is = is
note_any A note keys note_fault.Unverified is = is
note_any A note keys (note_fault.Sign place) is = is
note_any A note keys note_fault.OutOfMemory is = is

text_any : (A : Type 0) (text : Bytes) (why : CheckpointFault) → ParsesCheckpoint {A = A} text (Err why) → ParsesCheckpoint {A = Global} text (Err why)
text_any A text checkpoint_fault.Lines is = is
text_any A text checkpoint_fault.Origin is = is
text_any A text checkpoint_fault.Size is = is
text_any A text checkpoint_fault.Root is = is
text_any A text checkpoint_fault.OutOfMemory is = is

refused_any : (A : Type 0) (note : Bytes) (keys : List Key) (why : OpenCheckpointFault) → OpensCheckpoint {A = A} note keys (Err why) → OpensCheckpoint {A = Global} note keys (Err why)
refused_any A note keys (unopened.Unopened fault) is = (note_any A note keys fault is.0, is.1)
refused_any A note keys (unopened.NoCheckpoint fault) is = (
  record { text = is.0.text; lines = is.0.lines; noted = is.0.noted; opens = is.0.opens; parsed = text_any A is.0.text fault is.0.parsed },
  is.1,
)
refused_any A note keys unopened.OutOfMemory is = is

pub unstated : (A : Type 0) (honest : Bool) (held : Held) (may_fail : Resource → ShelfFault → Type 0) (keys : List Key) (note : Bytes) (f : OpenFault) → (honest ≡ true → held resource.Checkpoint ≡ Some note)
    → StatesNone A note keys f → FindsNone honest held may_fail keys f
unstated A honest held may_fail keys note opening.Checkpoint there (why, known, is) = (note, there, inr (why, known, refused_any A note keys why is))
unstated A honest held may_fail keys note opening.OtherLog there states = (note, there, states)
unstated A honest held may_fail keys note opening.TooLarge there states = (note, there, states)
unstated A honest held may_fail keys note (opening.Missing r) there none = absurd none
unstated A honest held may_fail keys note (opening.Damaged r) there none = absurd none
unstated A honest held may_fail keys note (opening.Shelf fault) there none = absurd none
unstated A honest held may_fail keys note opening.OutOfMemory there is = tt

-- nor is a note opened that states none
pub unstated_note : (A : Type 0) (honest : Bool) (held : Held) (may_fail : Resource → ShelfFault → Type 0) (note : Bytes) (keys : List Key) (found : Found) (fault : OpenFault) → StatesNone A note keys fault → OpenNoteFails honest held may_fail note keys found fault
unstated_note A honest held may_fail note keys found opening.Checkpoint (why, known, is) = inr (why, known, refused_any A note keys why is)
unstated_note A honest held may_fail note keys found opening.OtherLog states = states
unstated_note A honest held may_fail note keys found opening.TooLarge states = states
unstated_note A honest held may_fail note keys found (opening.Missing r) none = absurd none
unstated_note A honest held may_fail note keys found (opening.Damaged r) none = absurd none
unstated_note A honest held may_fail note keys found (opening.Shelf fault) none = absurd none
unstated_note A honest held may_fail note keys found opening.OutOfMemory memory = tt
