-- Appending batches, the last of which may be put while its publication is due.
use Rattle.std.specs.Prelude.{◌≡◌, Bool, ℕ, ◌+◌, ◌<◌, ◌⊎◌, false, length, List, [], ◌∷◌, ◌++◌, Option, None, Some}
use Rattle.tl_hash.specs.Bytes.{Bytes}
use Rattle.tl_device.specs.Device.{HasFailed, Passage}
use Rattle.tl_lines.specs.Lines.{Uncut, unread}
use Rattle.tl_lines.specs.Reading.{TellsAll, all_entries}
use Rattle.tl_run.specs.Signing.{LogKey}
use Rattle.tl_append.specs.Appending.{AppendsThen, AreBatches, AreFirst, Course, HasCheckpoint, LacksSpentByLast, PrintsHeads, WereThere, joined}
use Rattle.tl_append.specs.Inner.Due.{IsSigned}
use Rattle.tl_append.specs.declared.due.Due.{Due}

-- the batch whose publication is due, if any, of a log that had `from` entries before it
abbrev pub IsOwed : Option Due → ℕ → List (List Bytes) → Type 0
IsOwed None from last = last ≡ []
IsOwed (Some due) from last = (batch : List Bytes) × (last ≡ batch ∷ []) × (due.from ≡ from)

-- the last of these batches is published: its checkpoint is there, its size is marked, and what it spent is gone
-- unless it is kept
pub record HasEnded (key : LogKey) (keeps : Bool) (batches : List (List Bytes)) (mark : Option ℕ) (c : Course) : Type 0 where
  pub there : HasCheckpoint key (joined batches) c
  pub marked : mark ≡ Some c.is.edge.size
  pub spent : keeps ≡ false → LacksSpentByLast batches c

-- the batches that were appended so far, of these sizes: those that are published, each of which was there and had
-- its size and root printed, and the one whose publication is due, if any
pub record IsSoFar (Sized : List (List Bytes) → Type 0) (key : LogKey) (keeps is_first : Bool) (due : Option Due) (mark : Option ℕ) (c : Course) (o : Passage) : Type 0 where
  pub batches : List (List Bytes)
  pub last : List (List Bytes)
  pub sized : Sized (batches ++ last)
  pub some : is_first ≡ false → 0 < length (batches ++ last)
  pub owed : IsOwed due (c.was.edge.size + length (joined batches)) last
  pub signed : IsSigned key c.is due
  pub grown : c.is.edge.size ≡ c.was.edge.size + length (joined (batches ++ last))
  pub appends : AppendsThen key batches (joined last) c
  pub shown : WereThere key batches c
  pub heads : PrintsHeads key batches c o
  pub ended : is_first ≡ false → due ≡ None → HasEnded key keeps batches mark c

-- all lines of an input were appended in batches of this size, at least one, and the last publication may be due
pub record LeavesLast (key : LogKey) (size : ℕ) (keeps : Bool) (due : Option Due) (mark : Option ℕ) (c : Course) (i o : Passage) : Type 0 where
  pub so_far : IsSoFar (AreBatches size) key keeps false due mark c o
  pub now : Uncut
  pub lines : TellsAll unread now i (all_entries (joined (so_far.batches ++ so_far.last)))

-- some lines were appended before a fault: the first of the input, unless a read of it failed; what is due is the
-- publication of all that was put
pub record LeavesSome (key : LogKey) (due : Option Due) (c : Course) (i : Passage) : Type 0 where
  pub batches : List (List Bytes)
  pub rest : List Bytes
  pub signed : IsSigned key c.is due
  pub appends : AppendsThen key batches rest c
  pub lines : HasFailed i ⊎ AreFirst i (joined batches ++ rest)
