-- Why a host gave no body.
use Rattle.std.specs.Prelude.{Bool, true, false}
use Rattle.tl_device.specs.declared.fault.DeviceFault.{DeviceFault}
use Rattle.tl_device.specs.declared.fault.DeviceFault.TheVariants as device
use Rattle.tl_http.specs.declared.fault.HttpFault.{HttpFault}
use Rattle.tl_http.specs.declared.fault.HttpFault.TheVariants as get
use Rattle.tl_source.specs.declared.calling.CallFault.{CallFault}
use Rattle.tl_source.specs.declared.calling.CallFault.TheVariants as call

-- why a host gave no body: by the fault of the request and whether the time was over
abbrev pub after_get : Bool → HttpFault → DeviceFault
after_get true get.Read = device.TimedOut
after_get false get.Read = device.Broken
after_get true get.Write = device.TimedOut
after_get false get.Write = device.Broken
after_get late get.NoHead = device.NotHttp
after_get late get.Version = device.NotHttp
after_get late (get.Status status) = device.Status status
after_get late get.Encoded = device.Encoded
after_get late get.BadLength = device.BadLength
after_get late get.TooLarge = device.TooLarge
after_get late get.Short = device.CutShort
after_get late get.OutOfMemory = device.OutOfMemory
after_get late get.BadTarget = device.System
after_get late get.BadChunk = device.BadChunk

-- why a host gave no body: it can't be reached, or how the request failed
abbrev pub after_call : CallFault → DeviceFault
after_call (call.Unreached why) = why
after_call (call.Failed fault is_late) = after_get is_late fault
