-- A call as it is noted.
use Rattle.tl_folder.specs.declared.call_log.Asked.{Asked}
use Rattle.tl_folder.specs.declared.call_log.Asked.TheVariants as asked
use Rattle.tl_folder.specs.declared.call_log.Noted.{Noted}
use Rattle.tl_folder.specs.Events.{noted}
use Rattle.tl_folder.specs.Step.{Path, Bytes, Step}
use Rattle.tl_folder.specs.Step as step
use Rattle.tl_folder.specs.FileCalls.{Call}

-- the step that was asked for, with its path and the bytes or the second path
abbrev pub step_of : Asked → Path → Bytes → Step
step_of asked.Write path more = step.Write path more
step_of asked.Create path more = step.Create path
step_of asked.Append path more = step.Append path more
step_of (asked.Cut count) path more = step.Cut path count
step_of asked.Sync path more = step.Sync path
step_of asked.Remove path more = step.Remove path
step_of asked.Rename path more = step.Rename path more
step_of asked.SyncFolder path more = step.SyncFolder path
step_of asked.MakeFolder path more = step.MakeFolder path
step_of asked.MoveAway path more = step.MoveAway path more
step_of asked.RemoveFolder path more = step.RemoveFolder path

-- the call that was noted
abbrev pub call_of : Asked × Noted → Call
call_of p = (step_of p.0 (noted p.1.path) (noted p.1.more), p.1.is_ok)
