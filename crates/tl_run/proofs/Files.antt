-- Why a file isn't read.
use Rattle.tl_device.specs.declared.fault.DeviceFault.{DeviceFault}
use Rattle.tl_device.specs.declared.fault.DeviceFault.TheVariants as device
use Rattle.tl_run.specs.Faults.{after_device}
use Rattle.tl_run.specs.Keys.{IsFileFault}
use Rattle.tl_run.specs.declared.place.Place.TheVariants.{File}

-- a file can't be read
pub file_fails : (fault : DeviceFault) → IsFileFault (after_device File fault)
file_fails device.NotThere = tt
file_fails device.Taken = tt
file_fails device.Denied = tt
file_fails device.ReadOnly = tt
file_fails device.Full = tt
file_fails device.NotPlain = tt
file_fails device.NotFolder = tt
file_fails device.Moved = tt
file_fails device.Busy = tt
file_fails device.TooLarge = tt
file_fails device.Damaged = tt
file_fails device.Older = tt
file_fails device.NoHost = tt
file_fails device.NoConnection = tt
file_fails device.Unreachable = tt
file_fails device.TimedOut = tt
file_fails device.Broken = tt
file_fails (device.Status code) = tt
file_fails device.NotHttp = tt
file_fails device.Encoded = tt
file_fails device.BadLength = tt
file_fails device.BadChunk = tt
file_fails device.CutShort = tt
file_fails device.OutOfMemory = tt
file_fails device.System = tt
