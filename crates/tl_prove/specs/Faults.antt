-- Faults of files as faults of the commands.
use Rattle.std.specs.Prelude.{◌≡◌}
use Rattle.tl_device.specs.declared.fault.DeviceFault.{DeviceFault}
use Rattle.tl_device.specs.declared.fault.DeviceFault.TheVariants as device
use Rattle.tl_run.specs.declared.fault.RunFault.TheVariants as run
use Rattle.tl_fetch.specs.declared.fault.FetchFault.TheVariants as fetch
use Rattle.tl_prove.specs.declared.fault.NamedFile.{NamedFile}
use Rattle.tl_prove.specs.declared.fault.NamedFile.TheVariants.{Policy}
use Rattle.tl_prove.specs.declared.fault.ProveFault.{ProveFault}
use Rattle.tl_prove.specs.declared.fault.ProveFault.TheVariants.{Fetch, File, PolicyNotText}

abbrev pub out_of_memory : ProveFault
out_of_memory = Fetch (fetch.Run run.OutOfMemory)

-- the fault of a file
abbrev pub after_file : NamedFile → DeviceFault → ProveFault
after_file which device.OutOfMemory = out_of_memory
after_file which why = File which why

-- this file failed, or memory ran out
abbrev pub IsOfFile : NamedFile → ProveFault → Type 0
IsOfFile which (File failed why) = failed ≡ which
IsOfFile which fault = fault ≡ out_of_memory

-- the policy's file failed, or isn't text
abbrev pub IsOfPolicy : ProveFault → Type 0
IsOfPolicy PolicyNotText = Unit {0}
IsOfPolicy fault = IsOfFile Policy fault
