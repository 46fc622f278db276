-- The command `append` once its key is known.
use Rattle.std.specs.Prelude.{◌⊎◌, ℕ, Result, Ok, Err}
use Rattle.tl_device.specs.Device.{Passage}
use Rattle.tl_ledger.specs.Opening.{Found}
use Rattle.tl_run.specs.Signing.{LogKey}
use Rattle.tl_run.specs.declared.fault.RunFault.{RunFault}
use Rattle.tl_append.specs.Running.{GoesOnPart, GoesOnWhole, Stays, Visit}

-- how a log goes on under its key, in batches of this size
abbrev pub GoesOnUnder : LogKey → ℕ → Found → Visit → Passage → Passage → Result (Unit {0}) RunFault → Type 0
GoesOnUnder key size found v i o (Ok done) = GoesOnWhole key size found v i o
GoesOnUnder key size found v i o (Err fault) = Stays v i ⊎ GoesOnPart key found v i
