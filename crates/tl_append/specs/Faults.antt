-- The command's faults if lines can't be read, or if a log doesn't begin as asked.
use Rattle.std.specs.Prelude.{Bool, true, false, None, Some, Result, Ok, Err}
use Rattle.tl_run.specs.declared.fault.RunFault.{RunFault}
use Rattle.tl_run.specs.declared.fault.RunFault.TheVariants as run
use Rattle.tl_run.specs.declared.place.Place.TheVariants.{Log}
use Rattle.tl_device.specs.declared.fault.DeviceFault.TheVariants as device
use Rattle.tl_tile.specs.declared.resource.Resource.TheVariants as resource
use Rattle.tl_lines.specs.declared.fault.LineFault.{LineFault}
use Rattle.tl_lines.specs.declared.fault.LineFault.TheVariants as lines

-- the command's fault if lines couldn't be read
abbrev pub after_lines : LineFault → RunFault
after_lines lines.Read = run.Read
after_lines lines.TooFew = run.Malformed
after_lines (lines.TooLong number) = run.EntryTooLong number
after_lines lines.Endless = run.TooLarge
after_lines lines.OutOfMemory = run.OutOfMemory

-- whether a log may be there, given whether a new one is to begin and whether one is there
abbrev pub begin_outcome : Bool → Bool → Result (Unit {0}) RunFault
begin_outcome true true = Err (run.Device (Log (Some resource.Checkpoint)) device.Taken)
begin_outcome true false = Ok tt
begin_outcome false true = Ok tt
begin_outcome false false = Err (run.NothingThere (Log None))
