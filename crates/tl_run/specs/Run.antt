-- What a command does with its input and its output.
use Rattle.std.specs.Prelude.{◌≡◌, ◌⊎◌, ℕ, List, [], Option, Some, None, MatchOption, Result, Ok, Err, map, vec_items}
use Rattle.std.specs.declared.vec.Vec.{Vec}
use Rattle.tl_hash.specs.Bytes.{Bytes}
use Rattle.tl_device.specs.Device.{Passage, IsSteady, HasFailed, IsUnwritten, ReadWhole, ReadPast, GaveSome, WroteWhole, WrotePart}
use Rattle.tl_device.specs.ReadWhole.{InputFails}
use Rattle.tl_device.specs.declared.counted.InputFault.{InputFault}
use Rattle.tl_device.specs.declared.counted.InputFault.TheVariants as reading
use Rattle.tl_run.specs.declared.fault.RunFault.{RunFault}
use Rattle.tl_run.specs.declared.fault.RunFault.TheVariants.{Refused, Read, Write, TooLarge, EntryTooLong, OutOfMemory}

-- the output for an input: a text is printed; or a text is printed that says no; or the command fails and prints
-- nothing
pub data Output : Type 0 where
  Prints : Bytes → Output
  PrintsRefusal : Bytes → Output
  Fails : RunFault → Output

-- the most bytes that a command reads, 64 MiB
abbrev pub most_input : ℕ
most_input = 67108864

-- the whole input was read, and this is the output for it
pub record CameOf (Comes : Bytes → Output → Type 0) (i : Passage) (outcome : Output) : Type 0 where
  pub input : Bytes
  pub whole : ReadWhole i most_input input
  pub so : Comes input outcome

-- the whole input was read, and the whole output for it was written
pub record Wrote (Comes : Bytes → Output → Type 0) (how : Bytes → Output) (i o : Passage) : Type 0 where
  pub text : Bytes
  pub came : CameOf Comes i (how text)
  pub written : WroteWhole o text

-- the whole input was read, and the writer failed in the output for it
pub record WroteSome (Comes : Bytes → Output → Type 0) (i o : Passage) : Type 0 where
  pub text : Bytes
  pub came : CameOf Comes i (Prints text) ⊎ CameOf Comes i (PrintsRefusal text)
  pub part : WrotePart o text

-- a command allocates only if the reader gave some bytes, or if it prints a text for an empty input
abbrev pub IsAsking : (Bytes → Output → Type 0) → Passage → Type 0
IsAsking Comes i = GaveSome i ⊎ ((text : Bytes) × Comes [] (Prints text))

-- a run of a command: `i` is its reader, `o` its writer, and `Comes` relates an input and the output for it
abbrev pub Runs : (Bytes → Output → Type 0) → Passage → Passage → Result (Unit {0}) RunFault → Type 0
Runs Comes i o (Ok done) = Wrote Comes Prints i o
Runs Comes i o (Err Refused) = Wrote Comes PrintsRefusal i o
Runs Comes i o (Err Read) = HasFailed i × IsUnwritten o
Runs Comes i o (Err Write) = WroteSome Comes i o
Runs Comes i o (Err TooLarge) = ReadPast i most_input × IsUnwritten o
Runs Comes i o (Err OutOfMemory) = IsSteady i × IsUnwritten o × IsAsking Comes i
Runs Comes i o (Err fault) = CameOf Comes i (Fails fault) × IsUnwritten o

-- the same fault as one of reading an input, if it is one
abbrev pub input_fault : RunFault → Option InputFault
input_fault Read = Some reading.Read
input_fault TooLarge = Some reading.TooLarge
input_fault OutOfMemory = Some reading.OutOfMemory
input_fault fault = None

-- reading an input of at most `most` bytes fails with this fault
abbrev pub ReadingFails : ℕ → Passage → RunFault → Type 0
ReadingFails most p fault = MatchOption (input_fault fault) ⊥ (InputFails most p)

-- reading all that a reader gives, at most `most` bytes
abbrev pub ReadsInput : {A : Type 0} → ℕ → Passage → Result (Vec ℕ A) RunFault → Type 0
ReadsInput most p (Ok input) = ReadWhole p most (vec_items input)
ReadsInput most p (Err fault) = ReadingFails most p fault
