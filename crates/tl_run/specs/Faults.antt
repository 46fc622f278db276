-- What a fault of a command prints, and its exit status.
use Rattle.std.specs.Prelude.{ℕ, ◌++◌, codes, Option, Some, None}
use Rattle.tl_hash.specs.Bytes.{Bytes}
use Rattle.tl_text.specs.Text.{number_text}
use Rattle.tl_device.specs.Faults.{device_words}
use Rattle.tl_device.specs.declared.fault.DeviceFault.{DeviceFault}
use Rattle.tl_device.specs.declared.fault.DeviceFault.TheVariants as device
use Rattle.tl_run.specs.declared.place.Place.{Place}
use Rattle.tl_run.specs.declared.place.Place.TheVariants.{File, State, Log, Source}
use Rattle.tl_run.specs.declared.fault.RunFault.{RunFault}
use Rattle.tl_run.specs.declared.fault.RunFault.TheVariants.{Refused, Read, Write, TooLarge, EntryTooLong, BadOrigin, BadIndex, BadOld, BadPath, NotThere, Malformed, Chain, Sign, Operator, Listen, Accept, OutOfMemory, BadName, BadKey, BadCheckpoint, WrongSignature, Unverified, Device, BadKeyFile, NothingThere}

-- the words for a place, when no options say more of it
abbrev pub place_words : Place → Bytes
place_words File = codes "file"
place_words State = codes "state"
place_words (Log resource) = codes "log"
place_words (Source resource) = codes "source"

-- the words for a place with nothing to go on from
abbrev pub nothing_words : Place → Bytes
nothing_words place = codes "no " ++ place_words place ++ codes " there (use --new to begin one)"

-- the words for a fault
abbrev pub fault_words : RunFault → Bytes
fault_words Refused = codes "refused"
fault_words Read = codes "read failed"
fault_words Write = codes "write failed"
fault_words TooLarge = codes "input too large"
fault_words (EntryTooLong place) = codes "entry " ++ number_text place ++ codes " too long"
fault_words BadOrigin = codes "bad origin"
fault_words BadIndex = codes "bad index"
fault_words BadOld = codes "bad old size"
fault_words BadPath = codes "bad path"
fault_words NotThere = codes "not there"
fault_words Malformed = codes "malformed input"
fault_words (Chain place) = codes "chain " ++ number_text place ++ codes " refused"
fault_words Sign = codes "signing failed"
fault_words Operator = codes "operator refused"
fault_words Listen = codes "listen failed"
fault_words Accept = codes "accept failed"
fault_words OutOfMemory = codes "out of memory"
fault_words BadName = codes "bad name"
fault_words BadKey = codes "bad key"
fault_words (BadCheckpoint place) = place_words place ++ codes ": bad checkpoint"
fault_words (WrongSignature place) = codes "signature " ++ number_text place ++ codes " wrong"
fault_words Unverified = codes "signed by another key"
fault_words (Device place fault) = place_words place ++ codes ": " ++ device_words fault
fault_words BadKeyFile = codes "file: bad key"
fault_words (NothingThere place) = place_words place ++ codes ": " ++ nothing_words place

-- the fault of a command for a fault of a device
abbrev pub after_device : Place → DeviceFault → RunFault
after_device place device.OutOfMemory = OutOfMemory
after_device place fault = Device place fault

-- the line on standard error, without its newline; a refusal has none, since its answer is on standard output
abbrev pub fault_text : RunFault → Option Bytes
fault_text Refused = None
fault_text fault = Some (codes "tlog: " ++ fault_words fault)

-- the exit status for a fault of a device: 1 if the device is in use, holds what isn't accepted, or memory ran out,
-- else 3
abbrev pub device_status : DeviceFault → ℕ
device_status device.Taken = 1
device_status device.Busy = 1
device_status device.TooLarge = 1
device_status device.Damaged = 1
device_status device.Older = 1
device_status device.OutOfMemory = 1
device_status _ = 3

-- the exit status: 3 if a device failed or a source gave nothing, else 1
abbrev pub exit_status : RunFault → ℕ
exit_status Read = 3
exit_status Write = 3
exit_status Listen = 3
exit_status Accept = 3
exit_status (Device (Source resource) fault) = 3
exit_status (Device place fault) = device_status fault
exit_status _ = 1
