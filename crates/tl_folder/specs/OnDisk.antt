-- A shelf, and the disk that its folder is on.
use Rattle.std.specs.Prelude.{◌≡◌, ◌≢◌, ◌⊎◌, List, [], ◌∷◌, ◌++◌, map, Option, Some, None, Contains}
use Rattle.tl_tile.specs.declared.resource.Resource.{Resource}
use Rattle.tl_tile.specs.Path.{IsResource}
use Rattle.tl_archive.specs.Partials.{IsPartialOf}
use Rattle.tl_archive.specs.Shelves.{Item, Held, Kept}
use Rattle.tl_folder.specs.Step.{Path, Bytes}
use Rattle.tl_folder.specs.FileCalls.{Call}
use Rattle.tl_folder.specs.Posix.{Disk, MayBe}
use Rattle.tl_folder.specs.Settling.{Move, IsStaging, new_path, move_to}
use Rattle.tl_folder.specs.Places.{place_of}

-- a crash leaves under each resource what is held, and nothing else
abbrev pub Reflects : Path → Held → Disk → Type 0
Reflects root held disk = (r : Resource) (left : Option Bytes) → IsResource r → MayBe (disk (place_of root r)) left → left ≡ held r

-- a crash leaves under each resource what is held, or bytes that are staged for it
abbrev pub ReflectsEither : Path → Kept → Disk → Type 0
ReflectsEither root kept disk = (r : Resource) (left : Option Bytes) → IsResource r → MayBe (disk (place_of root r)) left
    → (left ≡ kept.held r) ⊎ ((bytes : Bytes) × (left ≡ Some bytes) × Contains kept.staged (r, bytes))

-- a crash leaves under each resource what is held and nothing else, or nothing of a partial one of the full one
abbrev pub ReflectsSome : Path → Resource → Held → Disk → Type 0
ReflectsSome root full held disk = (r : Resource) (left : Option Bytes) → IsResource r → MayBe (disk (place_of root r)) left
    → (left ≡ held r) ⊎ (IsPartialOf full r × (left ≡ None))

-- the path beside each item's place, and its place
abbrev pub moves_of : Path → List Item → List Move
moves_of root items = map (λ item. move_to (place_of root item.0)) items

-- the calls staged these items, one after another
abbrev pub AreStaged : Path → List Item → List Call → Type 0
AreStaged root [] calls = calls ≡ []
AreStaged root (item ∷ more) calls =
    (made : List Call) × (rest : List Call) × (calls ≡ made ++ rest) × IsStaging (new_path (place_of root item.0)) item.1 made × AreStaged root more rest

-- the resource is that of none of these items
abbrev pub IsNew : Resource → List Item → Type 0
IsNew r [] = Unit {0}
IsNew r (item ∷ more) = (r ≢ item.0) × IsNew r more

-- each item is of a resource, and no two are of the same
abbrev pub AreOnce : List Item → Type 0
AreOnce [] = Unit {0}
AreOnce (item ∷ more) = IsResource item.0 × IsNew item.0 more × AreOnce more
