-- A run with a key that was read from a file.
use Rattle.std.proofs.Common.{◌≡◌, ℕ, List}
use Rattle.std.specs.Prelude.{Option, Result, Ok, Err}
use Rattle.tl_device.specs.Device.{Passage}
use Rattle.tl_key.specs.NoteKey.{SeedKey, note_kind}
use Rattle.tl_run.specs.declared.fault.RunFault.{RunFault}
use Rattle.tl_run.specs.declared.fault.RunFault.TheVariants as fault
use Rattle.tl_run.specs.Signing.{seed_log_key}
use Rattle.tl_command.specs.Build.{RunsBuild}
use Rattle.tl_run.specs.Keys.{IsPrivateFile}
use Rattle.tl_command.specs.Signed.{RunsSigned}

-- a run under the key of a file is one of the file
pub runs_signed : (origin bytes : List ℕ) (get : Option (List ℕ)) (k : SeedKey) (i o : Passage) (r : Result (Unit {0}) RunFault) → IsPrivateFile note_kind bytes k → k.name ≡ origin
    → RunsBuild (seed_log_key k) get i o r → RunsSigned origin bytes get i o r
runs_signed origin bytes get k i o (Ok done) file named runs = record { key = k; file = file; fact = (named, runs) }
runs_signed origin bytes get k i o (Err fault.BadOrigin) file named runs = absurd (runs.0 file.of.name)
runs_signed origin bytes get k i o (Err fault.BadKey) file named runs = record { key = k; file = file; fact = (named, runs) }
runs_signed origin bytes get k i o (Err fault.BadKeyFile) file named runs = absurd runs.2.0.so
runs_signed origin bytes get k i o (Err fault.OutOfMemory) file named runs = record { key = k; file = file; fact = (runs.2.0, runs.2.1) }
runs_signed origin bytes get k i o (Err fault.Refused) file named runs = record { key = k; file = file; fact = (named, runs) }
runs_signed origin bytes get k i o (Err fault.Read) file named runs = record { key = k; file = file; fact = (named, runs) }
runs_signed origin bytes get k i o (Err fault.Write) file named runs = record { key = k; file = file; fact = (named, runs) }
runs_signed origin bytes get k i o (Err fault.TooLarge) file named runs = record { key = k; file = file; fact = (named, runs) }
runs_signed origin bytes get k i o (Err (fault.EntryTooLong place)) file named runs = record { key = k; file = file; fact = (named, runs) }
runs_signed origin bytes get k i o (Err fault.BadIndex) file named runs = record { key = k; file = file; fact = (named, runs) }
runs_signed origin bytes get k i o (Err fault.BadOld) file named runs = record { key = k; file = file; fact = (named, runs) }
runs_signed origin bytes get k i o (Err fault.BadPath) file named runs = record { key = k; file = file; fact = (named, runs) }
runs_signed origin bytes get k i o (Err fault.NotThere) file named runs = record { key = k; file = file; fact = (named, runs) }
runs_signed origin bytes get k i o (Err fault.Malformed) file named runs = record { key = k; file = file; fact = (named, runs) }
runs_signed origin bytes get k i o (Err (fault.Chain place)) file named runs = record { key = k; file = file; fact = (named, runs) }
runs_signed origin bytes get k i o (Err fault.Sign) file named runs = record { key = k; file = file; fact = (named, runs) }
runs_signed origin bytes get k i o (Err fault.Operator) file named runs = record { key = k; file = file; fact = (named, runs) }
runs_signed origin bytes get k i o (Err fault.Listen) file named runs = record { key = k; file = file; fact = (named, runs) }
runs_signed origin bytes get k i o (Err fault.Accept) file named runs = record { key = k; file = file; fact = (named, runs) }
runs_signed origin bytes get k i o (Err (fault.Device place why)) file named runs = record { key = k; file = file; fact = (named, runs) }
runs_signed origin bytes get k i o (Err fault.BadName) file named runs = record { key = k; file = file; fact = (named, runs) }
runs_signed origin bytes get k i o (Err (fault.BadCheckpoint place)) file named runs = record { key = k; file = file; fact = (named, runs) }
runs_signed origin bytes get k i o (Err (fault.WrongSignature place)) file named runs = record { key = k; file = file; fact = (named, runs) }
runs_signed origin bytes get k i o (Err fault.Unverified) file named runs = record { key = k; file = file; fact = (named, runs) }
runs_signed origin bytes get k i o (Err (fault.NothingThere place)) file named runs = record { key = k; file = file; fact = (named, runs) }
