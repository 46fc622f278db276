-- Lines of a reader.
use Rattle.std.specs.Prelude.{◌≡◌, ◌≤◌, ◌<◌, ◌⊎◌, ℕ, ◌+◌, ◌-◌, ◌^◌, Bool, true, false, List, [], ◌∷◌, ◌++◌, Option, None, Some, Result, Ok, Err, length, map, vec_items}
use Rattle.std.specs.declared.vec.Vec.{Vec}
use Rattle.std.specs.Io.KnownBytes.{Consumes, IsAtEnd}
use Rattle.tl_hash.specs.Bytes.{Bytes}
use Rattle.tl_device.specs.Device.{Passage, IsSteady, HasFailed}
use Rattle.tl_lines.specs.Lines.{Told, Entry, TooLong, Uncut, to_come, Tells, IsAtLine, HoldsNoLine}
use Rattle.tl_lines.specs.declared.next_line.NextLine.{NextLine}
use Rattle.tl_lines.specs.declared.next_line.NextLine.TheVariants as kind
use Rattle.tl_lines.specs.declared.fault.LineFault.{LineFault}
use Rattle.tl_lines.specs.declared.fault.LineFault.TheVariants as faults

-- what is reported by a line that a call returns
abbrev pub told : {A : Type 0} → NextLine A → Told
told (kind.Entry bytes) = Entry (vec_items bytes)
told (kind.TooLong number) = TooLong number

-- cutting the next line out of what was read
abbrev pub CutsLine : {A E : Type 0} → Uncut → Uncut → Result (Option (NextLine A)) E → Type 0
CutsLine u v (Ok (Some next)) = Tells u v [] (told next ∷ [])
CutsLine u v (Ok None) = Tells u v [] [] × HoldsNoLine v
CutsLine u v (Err fault) = Tells u v [] [] × (0 < length u.waiting)

-- a block was read
pub record ReadBlock (u v : Uncut) (p : Passage) : Type 0 where
  pub consumed : Consumes p.old p.new v.waiting
  pub some : 0 < length v.waiting
  pub same : v ≡ record u { waiting = v.waiting }
  pub steady : IsSteady p

-- the input ended
pub record ReadEnd (u v : Uncut) (p : Passage) : Type 0 where
  pub consumed : Consumes p.old p.new []
  pub ended : IsAtEnd p.new
  pub same : v ≡ u
  pub steady : IsSteady p

-- reading a block, if nothing is left of the last one
abbrev pub FillsBlock : Uncut → Uncut → Passage → Result Bool LineFault → Type 0
FillsBlock u v p (Ok true) = ReadBlock u v p
FillsBlock u v p (Ok false) = ReadEnd u v p
FillsBlock u v p (Err faults.Read) = HasFailed p × (v ≡ u)
FillsBlock u v p (Err fault) = ⊥

-- the reader gave these bytes without the newline of their last line, and came to its end
pub record HeardEnd (u v : Uncut) (p : Passage) (heard : Bytes) : Type 0 where
  pub read : Bytes
  pub consumed : Consumes p.old p.new read
  pub ended : IsAtEnd p.new
  pub closed : heard ≡ read ++ 10 ∷ []
  pub lacked : to_come u heard ≡ to_come u read
  pub at_line : IsAtLine v

-- the reader gave these bytes, or it gave them without their last newline and came to its end
abbrev pub Hears : Uncut → Uncut → Passage → Bytes → Type 0
Hears u v p heard = Consumes p.old p.new heard ⊎ HeardEnd u v p heard

-- these lines were reported, from what was held and what the reader gave
pub record TellsOf (u v : Uncut) (p : Passage) (told : List Told) : Type 0 where
  pub heard : Bytes
  pub hears : Hears u v p heard
  pub tells : Tells u v heard told
  pub steady : IsSteady p

-- these are all lines that were to come, and the reader came to its end
pub record TellsAll (u v : Uncut) (p : Passage) (told : List Told) : Type 0 where
  pub lines : TellsOf u v p told
  pub ended : IsAtEnd p.new
  pub at_line : IsAtLine v

-- these lines were reported, and then a read failed; what was read before it is kept
pub record TellsUntil (u v : Uncut) (p : Passage) (told : List Told) : Type 0 where
  pub heard : Bytes
  pub tells : Tells u v heard told
  pub failed : HasFailed p

-- these lines were reported, and then allocation failed: for the last of them, or for bytes that were held or read
pub record TellsShort (u v : Uncut) (p : Passage) (told : List Told) : Type 0 where
  pub heard : Bytes
  pub hears : Hears u v p heard
  pub tells : Tells u v heard told
  pub steady : IsSteady p
  pub asked : 0 < length told + (length u.waiting + length heard)

-- no line ended in 2^64 - 1 reads of one byte or more
pub record TellsNone (u v : Uncut) (p : Passage) (told : List Told) : Type 0 where
  pub heard : Bytes
  pub hears : Hears u v p heard
  pub tells : Tells u v heard told
  pub steady : IsSteady p
  pub endless : 2 ^ 64 - 1 ≤ length heard

-- reading the next line
abbrev pub ReadsLine : {A : Type 0} → Uncut → Uncut → Passage → Result (Option (NextLine A)) LineFault → Type 0
ReadsLine u v p (Ok (Some next)) = TellsOf u v p (told next ∷ [])
ReadsLine u v p (Ok None) = TellsAll u v p []
ReadsLine u v p (Err faults.Read) = TellsUntil u v p []
ReadsLine u v p (Err faults.OutOfMemory) = TellsShort u v p []
ReadsLine u v p (Err faults.Endless) = TellsNone u v p []
ReadsLine u v p (Err fault) = ⊥

-- lines that are all reported as entries, since none is too long
abbrev pub all_entries : List Bytes → List Told
all_entries lines = map Entry lines

-- reading this many lines, none of which is too long
abbrev pub ReadsLines : {A : Type 0} → ℕ → Uncut → Uncut → Passage → Result (Vec (Vec ℕ A) A) LineFault → Type 0
ReadsLines count u v p (Ok lines) =
    (length (vec_items lines) ≡ count) × TellsOf u v p (all_entries (map vec_items (vec_items lines)))
ReadsLines count u v p (Err (faults.TooLong number)) =
    (lines : List Bytes) × (length lines < count) × TellsOf u v p (all_entries lines ++ TooLong number ∷ [])
ReadsLines count u v p (Err faults.TooFew) = (lines : List Bytes) × (length lines < count) × TellsAll u v p (all_entries lines)
ReadsLines count u v p (Err faults.Read) = (lines : List Bytes) × (length lines < count) × TellsUntil u v p (all_entries lines)
ReadsLines count u v p (Err faults.OutOfMemory) = (lines : List Bytes) × (length lines ≤ count) × (0 < count) × TellsShort u v p (all_entries lines)
ReadsLines count u v p (Err faults.Endless) = (lines : List Bytes) × (length lines < count) × TellsNone u v p (all_entries lines)

-- reading the next lines: this many, or fewer if the input ended, none of which is too long
abbrev pub ReadsMost : {A : Type 0} → ℕ → Uncut → Uncut → Passage → Result (Vec (Vec ℕ A) A) LineFault → Type 0
ReadsMost count u v p (Ok lines) =
    (length (vec_items lines) ≤ count) × TellsOf u v p (all_entries (map vec_items (vec_items lines)))
    × (length (vec_items lines) < count → TellsAll u v p (all_entries (map vec_items (vec_items lines))))
ReadsMost count u v p (Err (faults.TooLong number)) =
    (lines : List Bytes) × (length lines < count) × TellsOf u v p (all_entries lines ++ TooLong number ∷ [])
ReadsMost count u v p (Err faults.TooFew) = ⊥
ReadsMost count u v p (Err faults.Read) = (lines : List Bytes) × (length lines < count) × TellsUntil u v p (all_entries lines)
ReadsMost count u v p (Err faults.OutOfMemory) = (lines : List Bytes) × (length lines ≤ count) × (0 < count) × TellsShort u v p (all_entries lines)
ReadsMost count u v p (Err faults.Endless) = (lines : List Bytes) × (length lines < count) × TellsNone u v p (all_entries lines)
