-- A text of lines, cut between lines.
use Rattle.std.specs.Prelude.{◌≡◌, ℕ, ◌+◌, ◌-◌, ◌<◌, ◌≤◌, ◌^◌, List, [], ◌∷◌, All, length, take, drop, Some}
use Rattle.tl_hash.specs.Bytes.{Bytes}
use Rattle.tl_tile.specs.Bundle.{AreShortEntries}
use Rattle.tl_command.specs.Inner.Growing.{BeginsWith}
use Rattle.tl_command.specs.Lines.{entries_of, first_too_long, lines_text, HasNoNewline}
use Rattle.tl_run.specs.declared.fault.RunFault.{RunFault}
use Rattle.tl_run.specs.declared.fault.RunFault.TheVariants.{EntryTooLong, OutOfMemory}

-- the text is this many whole lines, each with its newline
pub record AreWholeLines (text : Bytes) (count : ℕ) : Type 0 where
  pub lines : List Bytes
  pub whole : text ≡ lines_text lines
  pub plain : All HasNoNewline lines
  pub number : length lines ≡ count

-- this many lines of the text end at `end`, from which the base is subtracted
pub record IsMark (text : Bytes) (base end count : ℕ) : Type 0 where
  pub above : base ≤ end
  pub within : end ≤ base + length text
  pub lines : AreWholeLines (take (end - base) text) count

-- the text's next 256 lines end at each of these places, from which the base is subtracted
abbrev pub AreMarks : Bytes → ℕ → List ℕ → Type 0
AreMarks text base [] = Unit {0}
AreMarks text base (end ∷ ends) = IsMark text base end 256 × AreMarks (drop (end - base) text) end ends

-- a text of this many lines, none of which is too long, with the places at which each 256th of them ends
pub record AreMarkedLines (text : Bytes) (base : ℕ) (ends : List ℕ) (count : ℕ) : Type 0 where
  pub number : length (entries_of text) ≡ count
  pub few : length text < 2 ^ 32 - 1
  pub short : AreShortEntries (entries_of text)
  pub marks : AreMarks text base ends

-- the text begins with at least this many whole lines, none of which is too long
pub record BeginsWithLines (text : Bytes) (count : ℕ) : Type 0 where
  pub lines : List Bytes
  pub rest : Bytes
  pub begins : BeginsWith text lines rest
  pub number : count ≤ length lines

-- why the lines of a text weren't counted: the first that is too long has this index; or memory ran out, which is
-- only asked for if the text begins with 256 lines
abbrev pub IsMarkFault : Bytes → RunFault → Type 0
IsMarkFault text (EntryTooLong place) = first_too_long (entries_of text) ≡ Some place
IsMarkFault text OutOfMemory = BeginsWithLines text 256
IsMarkFault text fault = ⊥
