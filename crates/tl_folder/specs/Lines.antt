-- The lines of a file, each with its newline.
use Rattle.std.specs.Prelude.{◌≡◌, ◌≢◌, ℕ, ◌+◌, ◌^◌, ◌<◌, ◌≤◌, ◌⊎◌, List, [], ◌∷◌, ◌++◌, length, take, slice_index_or, Result, Ok, Err}
use Rattle.std.specs.Io.KnownBytes.{Consumes, IsAtEnd}
use Rattle.tl_device.specs.Device.{HasFailed, Passage}
use Rattle.tl_device.specs.declared.counted.InputFault.{InputFault}
use Rattle.tl_device.specs.declared.counted.InputFault.TheVariants as reading
use Rattle.tl_folder.specs.Step.{Path, Bytes, Step}
use Rattle.tl_folder.specs.Step as step
use Rattle.tl_folder.specs.FileCalls.{Call, Begins, Fails, done}
use Rattle.tl_folder.specs.Posix.{folder_of}
use Rattle.tl_folder.specs.Settling.{naming_in}

-- the first `count` bytes are whole lines, and no newline comes after them
pub record IsWholeFront (bytes : List ℕ) (count : ℕ) : Type 0 where
  pub within : count ≤ length bytes
  pub ended : (count ≡ 0) ⊎ ((at : ℕ) × (count ≡ at + 1) × (slice_index_or bytes at 0 ≡ 10))
  pub last : (at : ℕ) → count ≤ at → at < length bytes → slice_index_or bytes at 0 ≢ 10

-- the reader was read to its end, and the first `count` bytes that it gave are its whole lines
pub record ReadFront (p : Passage) (count : ℕ) : Type 0 where
  pub input : List ℕ
  pub consumed : Consumes p.old p.new input
  pub ended : IsAtEnd p.new
  pub front : IsWholeFront input count

-- the length of the whole lines that the reader gives; or a read failed, or there were too many bytes
abbrev pub MeasuresLines : Passage → Result ℕ InputFault → Type 0
MeasuresLines p (Ok count) = ReadFront p count
MeasuresLines p (Err reading.Read) = HasFailed p
MeasuresLines p (Err reading.TooLarge) = (input : List ℕ) × Consumes p.old p.new input × (2 ^ 62 ≤ length input)
MeasuresLines p (Err reading.OutOfMemory) = ⊥

-- ---- the calls on the file

-- cut the file to its first `count` bytes, sync it, and sync its name
abbrev pub cutting : Path → ℕ → List Step
cutting path count = step.Cut path count ∷ step.Sync path ∷ naming_in (folder_of path)

-- make the file if there is none, cut it to its first `count` bytes, sync it, and sync its name
abbrev pub opening : Path → ℕ → List Step
opening path count = step.Create path ∷ cutting path count

-- append the bytes to the file and sync them
abbrev pub appending : Path → Bytes → List Step
appending path bytes = step.Append path bytes ∷ step.Sync path ∷ []

-- Ok: the first `count` bytes were appended, and all calls succeeded. Err: a beginning of the calls was made.
abbrev pub AppendsSome : {E : Type 0} → Path → Bytes → List Call → List Call → Result ℕ E → Type 0
AppendsSome path bytes before after (Ok count) = after ≡ before ++ done (appending path (take count bytes))
AppendsSome path bytes before after (Err fault) = (made : List Call) × (after ≡ before ++ made) × ((count : ℕ) × Begins (appending path (take count bytes)) made)

-- Ok: the reader came to its end, the file was cut to the whole lines that it gave, and all calls succeeded. Err:
-- none was made, or one of them failed and those before it succeeded.
abbrev pub CutsLines : {E : Type 0} → Path → Passage → List Call → List Call → Result ℕ E → Type 0
CutsLines path p before after (Ok count) = ReadFront p count × (after ≡ before ++ done (cutting path count))
CutsLines path p before after (Err fault) =
    (after ≡ before)
    ⊎ ((count : ℕ) × ReadFront p count × ((made : List Call) × (after ≡ before ++ made) × Fails (cutting path count) made))
