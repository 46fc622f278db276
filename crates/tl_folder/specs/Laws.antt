-- Words for the laws on what a crash leaves.
use Rattle.std.specs.Prelude.{◌≡◌, ◌≢◌, ◌⊎◌, List, [], ◌∷◌, ◌++◌, Option, Some, None, option_map}
use Rattle.tl_folder.specs.Step.{Path, Bytes}
use Rattle.tl_folder.specs.Posix.{File, At, Whole, MayBe, bytes_of}
use Rattle.tl_folder.specs.Settling.{Move}

-- a file is there, and now has these bytes
abbrev pub HasBytes : At → Bytes → Type 0
HasBytes at bytes = option_map bytes_of at.there ≡ Some bytes

-- the bytes that a file now has, none if there is no file
abbrev pub bytes_there : Option File → Bytes
bytes_there None = []
bytes_there (Some file) = bytes_of file

-- a file is there with these bytes, and a crash leaves nothing else
abbrev pub IsAtRest : At → Bytes → Type 0
IsAtRest at bytes = (at.there ≡ Some (Whole bytes)) × (at.older ≡ [])

-- a crash leaves nothing that it couldn't have left before
abbrev pub LeavesNoMore : At → At → Type 0
LeavesNoMore before now = (left : Option Bytes) → MayBe now left → MayBe before left

-- a crash leaves what it might have left before, or these bytes
abbrev pub LeavesOldOrNew : At → Bytes → At → Type 0
LeavesOldOrNew before bytes now = (left : Option Bytes) → MayBe now left → MayBe before left ⊎ (left ≡ Some bytes)

-- a crash leaves a file that begins with these bytes
abbrev pub LeavesFront : At → Bytes → Type 0
LeavesFront at front = (left : Option Bytes) → MayBe at left → (rest : Bytes) × (left ≡ Some (front ++ rest))

-- the two moves have no path in common
pub record AreTwo (a b : Move) : Type 0 where
  pub besides : a.0 ≢ b.0
  pub places : a.1 ≢ b.1
  pub first : a.0 ≢ b.1
  pub second : a.1 ≢ b.0

-- the move has no path in common with any of these
abbrev pub IsApart : Move → List Move → Type 0
IsApart move [] = Unit {0}
IsApart move (other ∷ more) = AreTwo move other × IsApart move more

-- no two of the moves have a path in common, and in each the file isn't written at its own place
abbrev pub AreApart : List Move → Type 0
AreApart [] = Unit {0}
AreApart (move ∷ more) = (move.0 ≢ move.1) × IsApart move more × AreApart more

-- the path is neither a place of these nor beside one
abbrev pub IsElsewhere : Path → List Move → Type 0
IsElsewhere path [] = Unit {0}
IsElsewhere path (move ∷ more) = (path ≢ move.0) × (path ≢ move.1) × IsElsewhere path more
