-- The command's faults for those of a ledger and of its shelf.
use Rattle.std.specs.Prelude.{None, Some}
use Rattle.tl_device.specs.declared.fault.DeviceFault.TheVariants as device
use Rattle.tl_tile.specs.declared.resource.Resource.TheVariants as resource
use Rattle.tl_archive.specs.declared.fault.ShelfFault.{ShelfFault}
use Rattle.tl_checkpoint.specs.declared.opening.OpenCheckpointFault.{OpenCheckpointFault}
use Rattle.tl_checkpoint.specs.declared.opening.OpenCheckpointFault.TheVariants as unopened
use Rattle.tl_run.specs.Faults.{after_device}
use Rattle.tl_run.specs.declared.fault.RunFault.{RunFault}
use Rattle.tl_run.specs.declared.fault.RunFault.TheVariants as run
use Rattle.tl_run.specs.declared.place.Place.TheVariants.{Log}
use Rattle.tl_ledger.specs.declared.fault.LedgerFault.{LedgerFault}
use Rattle.tl_ledger.specs.declared.fault.LedgerFault.TheVariants as ledger
use Rattle.tl_ledger.specs.declared.marking.MarkFault.{MarkFault}
use Rattle.tl_ledger.specs.declared.marking.MarkFault.TheVariants as mark
use Rattle.tl_ledger.specs.declared.opened.fault.OpenFault.{OpenFault}
use Rattle.tl_ledger.specs.declared.opened.fault.OpenFault.TheVariants as opening

-- if a shelf failed
abbrev pub after_shelf : ShelfFault → RunFault
after_shelf fault = after_device (Log fault.resource) fault.why

-- if entries weren't put
abbrev pub after_ledger : LedgerFault → RunFault
after_ledger (ledger.Shelf fault) = after_shelf fault
after_ledger ledger.OutOfMemory = run.OutOfMemory

-- if a log wasn't opened
abbrev pub after_open : OpenFault → RunFault
after_open opening.Checkpoint = run.BadCheckpoint (Log (Some resource.Checkpoint))
after_open opening.OtherLog = run.BadCheckpoint (Log (Some resource.Checkpoint))
after_open opening.TooLarge = after_device (Log (Some resource.Checkpoint)) device.TooLarge
after_open (opening.Missing r) = after_device (Log (Some r)) device.NotThere
after_open (opening.Damaged r) = after_device (Log (Some r)) device.Damaged
after_open (opening.Shelf fault) = after_shelf fault
after_open opening.OutOfMemory = run.OutOfMemory

-- if a proposal doesn't open
abbrev pub after_proposal : OpenCheckpointFault → RunFault
after_proposal unopened.OutOfMemory = run.OutOfMemory
after_proposal fault = run.BadCheckpoint (Log None)

-- if a log may not go on, by its mark
abbrev pub after_mark : MarkFault → RunFault
after_mark (mark.Shelf fault) = after_shelf fault
after_mark (mark.Older size) = after_device (Log (Some resource.Checkpoint)) device.Older
