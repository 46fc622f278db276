-- How a run of a command ends.
use Rattle.std.specs.Prelude.{◌⊎◌, ℕ, Option, Some, None, Result, Ok, Err}
use Rattle.tl_hash.specs.Bytes.{Bytes}
use Rattle.tl_device.specs.Device.{Passage, IsUnwritten, WroteWhole, WrotePart}
use Rattle.tl_run.specs.Faults.{device_status, exit_status}
use Rattle.tl_run.specs.declared.fault.RunFault.{RunFault}
use Rattle.tl_fetch.specs.FaultWords.{fetch_status}
use Rattle.tl_fetch.specs.declared.fault.FetchFault.{FetchFault}
use Rattle.tl_prove.specs.FaultWords.{prove_status}
use Rattle.tl_prove.specs.declared.fault.ProveFault.{ProveFault}
use Rattle.tl_serve.specs.declared.witness_fault.WitnessFault.{WitnessFault}
use Rattle.tl_serve.specs.declared.witness_fault.WitnessFault.TheVariants as why
use Rattle.tl_bucket.specs.declared.fault.BucketFault.{BucketFault}
use Rattle.tl_bucket.specs.declared.fault.BucketFault.TheVariants as bucket
use Rattle.tl_cli.specs.declared.fault.CommandFault.{CommandFault}
use Rattle.tl_cli.specs.declared.fault.CommandFault.TheVariants.{Run, Fetch, Prove, Witness, Bucket, Credentials, KeyFile}

-- the outcome of a command that has no fault of its own, of `fetch` and `feed`, of `verify`, `prove` and `submit`,
-- and of `witness`
abbrev pub by_run : Result (Unit {0}) RunFault → Result (Unit {0}) CommandFault
by_run (Ok done) = Ok done
by_run (Err fault) = Err (Run fault)

abbrev pub by_fetch : Result (Unit {0}) FetchFault → Result (Unit {0}) CommandFault
by_fetch (Ok done) = Ok done
by_fetch (Err fault) = Err (Fetch fault)

abbrev pub by_prove : Result (Unit {0}) ProveFault → Result (Unit {0}) CommandFault
by_prove (Ok done) = Ok done
by_prove (Err fault) = Err (Prove fault)

abbrev pub by_witness : Result (Unit {0}) WitnessFault → Result (Unit {0}) CommandFault
by_witness (Ok done) = Ok done
by_witness (Err fault) = Err (Witness fault)

-- the exit status for a fault of `witness`: if the file of the logs can't be read, that for the device's fault
abbrev pub witness_status : WitnessFault → ℕ
witness_status (why.Run fault) = exit_status fault
witness_status (why.LogsFile fault) = device_status fault
witness_status (why.Logs fault) = 1

-- the exit status for a fault of a bucket
abbrev pub bucket_status : BucketFault → ℕ
bucket_status (bucket.Device why) = device_status why
bucket_status fault = 1

-- the exit status for a fault
abbrev pub command_status : CommandFault → ℕ
command_status (Run fault) = exit_status fault
command_status (Fetch fault) = fetch_status fault
command_status (Prove fault) = prove_status fault
command_status (Witness fault) = witness_status fault
command_status (Bucket fault) = bucket_status fault
command_status (Credentials None) = 1
command_status (Credentials (Some why)) = device_status why
command_status (KeyFile which why) = device_status why

-- the exit status: 0 if the command succeeded, else that of the fault
abbrev pub status_of : Result (Unit {0}) CommandFault → ℕ
status_of (Ok done) = 0
status_of (Err fault) = command_status fault

-- this was written to standard error, or a part of it until that failed, or nothing because allocation failed
abbrev pub Told : Bytes → Passage → Type 0
Told text e = WroteWhole e text ⊎ WrotePart e text ⊎ IsUnwritten e
