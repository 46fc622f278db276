-- The entries of an input are its lines.
use Rattle.std.specs.Prelude.{◌≡◌, ℕ, List, None, Some, Result, Ok, Err, map, vec_items}
use Rattle.std.specs.declared.vec.Vec.{Vec}
use Rattle.tl_hash.specs.Bytes.{Bytes}
use Rattle.tl_device.specs.Device.{Passage, ReadWhole}
use Rattle.tl_run.specs.Run.{ReadingFails}
use Rattle.tl_run.specs.declared.fault.RunFault.{RunFault}
use Rattle.tl_run.specs.declared.fault.RunFault.TheVariants.{EntryTooLong}
use Rattle.tl_command.specs.Lines.{entries_of, first_too_long}

-- a fault of the entries of an input: the first one that is too long has this index
abbrev pub IsEntryFault : List Bytes → RunFault → Type 0
IsEntryFault entries (EntryTooLong place) = first_too_long entries ≡ Some place
IsEntryFault entries fault = ⊥

-- the entries are the lines of the whole input, and none is too long
pub record ReadEntries (p : Passage) (most : ℕ) (entries : List Bytes) : Type 0 where
  pub input : Bytes
  pub whole : ReadWhole p most input
  pub lines : entries ≡ entries_of input
  pub short : first_too_long entries ≡ None

-- the first entry of the whole input that is too long has this index
pub record ReadTooLong (p : Passage) (most place : ℕ) : Type 0 where
  pub input : Bytes
  pub whole : ReadWhole p most input
  pub first : first_too_long (entries_of input) ≡ Some place

-- reading the entries of all that a reader gives, at most `most` bytes
abbrev pub ReadsEntries : {A : Type 0} → ℕ → Passage → Result (Vec (Vec ℕ A) A) RunFault → Type 0
ReadsEntries most p (Ok entries) = ReadEntries p most (map vec_items (vec_items entries))
ReadsEntries most p (Err (EntryTooLong place)) = ReadTooLong p most place
ReadsEntries most p (Err fault) = ReadingFails most p fault
