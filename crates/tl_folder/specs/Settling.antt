-- The calls that make folders, write files beside their places, and put them in place together.
use Rattle.std.specs.Prelude.{◌≡◌, ◌<◌, ◌⊎◌, Bool, true, false, ◌||◌, IsTrue, List, [], ◌∷◌, ◌++◌, length, map, Option, Some, None, Contains, Result, Ok, Err}
use Rattle.std.specs.Str.{bytes_eq}
use Rattle.std.specs.Path.{path_parent}
use Rattle.tl_folder.specs.Step.{Path, Bytes, Step}
use Rattle.tl_folder.specs.Step as step
use Rattle.tl_folder.specs.FileCalls.{Call, done}
use Rattle.tl_folder.specs.Posix.{spelled, folder_of}
use Rattle.tl_folder.specs.Places.{mark_path}

-- the path beside a place, at which a file is first written, and the place
abbrev pub Move : Type 0
Move = Path × Path

-- the path beside a place: the place with `.new` added
abbrev pub new_path : Path → Path
new_path place = place ++ 46 ∷ 110 ∷ 101 ∷ 119 ∷ []

-- the path beside a place, and the place
abbrev pub move_to : Path → Move
move_to place = (new_path place, place)

-- ---- names

-- sync the names in a folder
abbrev pub naming : Path → Step
naming folder = step.SyncFolder folder

-- sync the folder that a file or folder is in, so that its name outlasts a crash
abbrev pub naming_in : Option Path → List Step
naming_in None = []
naming_in (Some folder) = naming folder ∷ []

-- ---- folders

-- the folder is the one at the path, or is above it
pub data IsUp : Path → Path → Type 0 where
  is_itself : {path : Path} → IsUp path path
  is_higher : {path parent folder : Path} → path_parent path ≡ Some parent → IsUp parent folder → IsUp path folder

-- sync a folder's name, if names are to outlast a crash
abbrev pub naming_if : Bool → Path → List Step
naming_if true folder = naming_in (folder_of folder)
naming_if false folder = []

-- make a folder, and sync its name if names are to outlast a crash
abbrev pub making : Bool → Path → List Step
making named folder = step.MakeFolder folder ∷ naming_if named folder

-- the folder was asked for: all calls that make it succeeded, or the system didn't make it
abbrev pub Asks : Bool → Path → List Call → List Call → Type 0
Asks named folder before after = (after ≡ before ++ done (making named folder)) ⊎ (after ≡ before ++ (step.MakeFolder folder, false) ∷ [])

-- folders at the path or above it were asked for, one after another
pub data AsksUp (named : Bool) (path : Path) (before : List Call) : List Call → Type 0 where
  asks_none : AsksUp named path before before
  asks_more : {mid after : List Call} {folder : Path} → AsksUp named path before mid → IsUp path folder → Asks named folder mid after → AsksUp named path before after

-- such folders were asked for, the one at the path last
abbrev pub AsksFolder : Bool → Path → List Call → List Call → Type 0
AsksFolder named path before after = (mid : List Call) × AsksUp named path before mid × Asks named path mid after

-- The folder was made if it wasn't there, with those above it. The name of each new one was synced; that of the
-- folder itself was synced in any case, and then the names in it.
abbrev pub OpensFolder : Path → List Call → List Call → Type 0
OpensFolder path before after =
    (mid : List Call) × AsksFolder true path before mid × (after ≡ (mid ++ done (naming_in (folder_of path))) ++ done (naming path ∷ []))

-- ---- staging

-- the folder that the path is in, if there is one, was asked for, after some above it
abbrev pub AsksAbove : Path → List Call → List Call → Type 0
AsksAbove path before after =
    ((path_parent path ≡ None) × (after ≡ before)) ⊎ ((own : Path) × (path_parent path ≡ Some own) × AsksFolder false own before after)

-- the file was written, at once or after the folder that it is in was asked for
abbrev pub IsStaging : Path → Bytes → List Call → Type 0
IsStaging path bytes made =
    (made ≡ (step.Write path bytes, true) ∷ [])
    ⊎ ((mid : List Call) × AsksAbove path ((step.Write path bytes, false) ∷ []) mid × (made ≡ mid ++ (step.Write path bytes, true) ∷ []))

-- the step writes this file, or makes a folder above it
abbrev pub IsOwn : Path → Bytes → Step → Type 0
IsOwn path bytes asked =
    (asked ≡ step.Write path bytes)
    ⊎ ((own folder : Path) × (path_parent path ≡ Some own) × IsUp own folder × (asked ≡ step.MakeFolder folder))

-- the calls only write this file and make folders above it
abbrev pub IsAside : Path → Bytes → List Call → Type 0
IsAside path bytes [] = Unit {0}
IsAside path bytes (call ∷ more) = IsOwn path bytes call.0 × IsAside path bytes more

-- Ok: the file was written. Err: at most a part of it was.
abbrev pub WritesAside : {T E : Type 0} → Path → Bytes → List Call → List Call → Result T E → Type 0
WritesAside path bytes before after (Ok it) = (made : List Call) × (after ≡ before ++ made) × IsStaging path bytes made
WritesAside path bytes before after (Err fault) = (made : List Call) × (after ≡ before ++ made) × IsAside path bytes made

-- ---- settling

-- sync the file beside the place
abbrev pub syncing : Move → Step
syncing move = step.Sync move.0

-- rename the file to its place
abbrev pub placing : Move → Step
placing move = step.Rename move.0 move.1

-- sync the files, then rename them to their places, and then sync the names in the folders
abbrev pub settling : List Move → List Path → List Step
settling moves folders = map syncing moves ++ map placing moves ++ map naming folders

-- the path is in the list
abbrev pub has_path : List Path → Path → Bool
has_path [] path = false
has_path (first ∷ more) path = bytes_eq first path || has_path more path

-- the folder is above the path; going up ends at the first folder whose path is no longer than the root's
pub data IsAbove (root : Path) : Path → Path → Type 0 where
  nearest : {path folder : Path} → path_parent path ≡ Some folder → IsAbove root path folder
  farther : {path between folder : Path} → path_parent path ≡ Some between → length root < length between → IsAbove root between folder → IsAbove root path folder

-- each folder above a place, up to the root, is in the list
abbrev pub AreCovered : Path → List Path → List Move → Type 0
AreCovered root folders moves = (move : Move) (folder : Path) → Contains moves move → IsAbove root move.1 folder → IsTrue (has_path folders (spelled folder))

-- ---- a file that is replaced

-- the path of the lock of a file that is replaced
abbrev pub lock_path_of : Path → Path
lock_path_of path = path ++ 46 ∷ 108 ∷ 111 ∷ 99 ∷ 107 ∷ []

-- write the bytes beside the file, sync them, rename them to its place, and sync the name
abbrev pub replacing : Path → Path → Bytes → List Step
replacing aside path bytes = step.Write aside bytes ∷ step.Sync aside ∷ step.Rename aside path ∷ naming_in (folder_of path)

-- ---- a mark

-- write the bytes beside a file, and rename them to its place
abbrev pub moving : Path → Path → Bytes → List Step
moving aside path bytes = step.Write aside bytes ∷ step.Rename aside path ∷ []

-- write the bytes beside the mark of the folder with this path, and rename them to its place
abbrev pub marking : Path → Bytes → List Step
marking root bytes = moving (new_path (mark_path root)) (mark_path root) bytes
