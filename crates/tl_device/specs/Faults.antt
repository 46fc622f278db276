-- Why a device failed: the fault for each kind of error of the system, and its words.
use Rattle.std.specs.Prelude.{ℕ, List, codes, decimal}
use Rattle.std.specs.declared.io.ErrorKind.{ErrorKind}
use Rattle.std.specs.declared.io.ErrorKind.TheVariants as kind
use Rattle.tl_device.specs.declared.counted.InputFault.{InputFault}
use Rattle.tl_device.specs.declared.counted.InputFault.TheVariants as input
use Rattle.tl_device.specs.declared.fault.DeviceFault.{DeviceFault}
use Rattle.tl_device.specs.declared.fault.DeviceFault.TheVariants.{NotThere, Taken, Denied, ReadOnly, Full, NotPlain, NotFolder, Moved, Busy, TooLarge, Damaged, Older, NoHost, NoConnection, Unreachable, TimedOut, Broken, Status, NotHttp, Encoded, BadLength, BadChunk, CutShort, OutOfMemory, System}

-- the fault for an error of this kind
abbrev pub after_kind : ErrorKind → DeviceFault
after_kind kind.NotFound = NotThere
after_kind kind.AlreadyExists = Taken
after_kind kind.PermissionDenied = Denied
after_kind kind.ReadOnlyFilesystem = ReadOnly
after_kind kind.StorageFull = Full
after_kind kind.QuotaExceeded = Full
after_kind kind.FileTooLarge = Full
after_kind kind.IsADirectory = NotPlain
after_kind kind.NotADirectory = NotFolder
after_kind kind.ConnectionRefused = NoConnection
after_kind kind.HostUnreachable = Unreachable
after_kind kind.NetworkUnreachable = Unreachable
after_kind kind.NetworkDown = Unreachable
after_kind kind.TimedOut = TimedOut
after_kind kind.ConnectionReset = Broken
after_kind kind.ConnectionAborted = Broken
after_kind kind.BrokenPipe = Broken
after_kind kind.OutOfMemory = OutOfMemory
after_kind _ = System

-- the fault for a fault of reading a whole input
abbrev pub after_input : InputFault → DeviceFault
after_input input.Read = System
after_input input.TooLarge = TooLarge
after_input input.OutOfMemory = OutOfMemory

-- the words of a fault
abbrev pub device_words : DeviceFault → List ℕ
device_words NotThere = codes "not there"
device_words Taken = codes "already there"
device_words Denied = codes "permission denied"
device_words ReadOnly = codes "read-only file system"
device_words Full = codes "no space left"
device_words NotPlain = codes "not a plain file"
device_words NotFolder = codes "not a folder"
device_words Moved = codes "no longer at its path"
device_words Busy = codes "in use"
device_words TooLarge = codes "too large"
device_words Damaged = codes "damaged"
device_words Older = codes "older than one that was there"
device_words NoHost = codes "no such host"
device_words NoConnection = codes "connection refused"
device_words Unreachable = codes "unreachable"
device_words TimedOut = codes "timed out"
device_words Broken = codes "connection broken"
device_words (Status status) = decimal status
device_words NotHttp = codes "no response over HTTP"
device_words Encoded = codes "encoded body"
device_words BadLength = codes "body of no clear length"
device_words BadChunk = codes "malformed chunk"
device_words CutShort = codes "body cut short"
device_words OutOfMemory = codes "out of memory"
device_words System = codes "input/output error"
