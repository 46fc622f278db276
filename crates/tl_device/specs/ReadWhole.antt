-- Reading all that a reader gives.
use Rattle.std.specs.Prelude.{ℕ, Result, Ok, Err, vec_items}
use Rattle.std.specs.declared.vec.Vec.{Vec}
use Rattle.tl_device.specs.Device.{Passage, IsSteady, HasFailed, ReadWhole, ReadPast, GaveSome}
use Rattle.tl_device.specs.declared.counted.InputFault.{InputFault}
use Rattle.tl_device.specs.declared.counted.InputFault.TheVariants.{Read, TooLarge, OutOfMemory}

-- what a fault of reading all that a reader gives, up to `most` bytes, says of the reader
abbrev pub InputFails : ℕ → Passage → InputFault → Type 0
InputFails most p Read = HasFailed p
InputFails most p TooLarge = ReadPast p most
InputFails most p OutOfMemory = IsSteady p × GaveSome p

-- reading all that a reader gives, up to `most` bytes
abbrev pub ReadsWhole : {A : Type 0} → ℕ → Passage → Result (Vec ℕ A) InputFault → Type 0
ReadsWhole most p (Ok input) = ReadWhole p most (vec_items input)
ReadsWhole most p (Err fault) = InputFails most p fault
