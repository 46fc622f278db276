-- What a crash leaves of files, by POSIX.1-2017 (System Interfaces: open, write, fsync, unlink, rename). What was
-- written and not synced may be lost or torn, and a rename is one step. That a name outlasts a crash once its folder
-- was synced is what systems promise beyond that. The folders above a file must be there, and two different texts are
-- two paths.
use Rattle.std.specs.Prelude.{◌≡◌, ℕ, ◌+◌, ◌-◌, ◌⊎◌, ◌||◌, Bool, true, false, List, [], ◌∷◌, ◌++◌, length, take, Option, Some, None, option_map, Contains, if◌then◌else◌}
use Rattle.std.specs.Str.{bytes_eq}
use Rattle.std.specs.Path.{path_parent}
use Rattle.tl_folder.specs.Step.{Path, Bytes, Step}
use Rattle.tl_folder.specs.Step as step
use Rattle.tl_folder.specs.FileCalls.{Call}

-- a file: all its bytes outlast a crash; or its first ones do, and any bytes may follow instead of the second ones
pub data File : Type 0 where
  Whole : Bytes → File
  Torn : Bytes → Bytes → File

-- a path: the file that is there now, and what else may be there after a crash until its folder is synced
pub record At : Type 0 where
  pub there : Option File
  pub older : List (Option File)

-- the files of a disk
abbrev pub Disk : Type 0
Disk = Path → At

-- ---- what a crash leaves

-- the bytes that a crash may leave of a file
abbrev pub MayHave : File → Bytes → Type 0
MayHave (Whole bytes) left = left ≡ bytes
MayHave (Torn front behind) left = (rest : Bytes) × (left ≡ front ++ rest)

-- the bytes that a file has now
abbrev pub bytes_of : File → Bytes
bytes_of (Whole bytes) = bytes
bytes_of (Torn front behind) = front ++ behind

-- what a crash may leave of a file, or of no file
abbrev pub MayStay : Option File → Option Bytes → Type 0
MayStay None left = left ≡ None
MayStay (Some file) left = (bytes : Bytes) × (left ≡ Some bytes) × MayHave file bytes

-- what a crash may leave at a path
abbrev pub MayBe : At → Option Bytes → Type 0
MayBe at left = MayStay at.there left ⊎ ((file : Option File) × Contains at.older file × MayStay file left)

-- ---- folders, and what is in them

-- the path is that of the folder or of something in it
abbrev pub is_within : Path → Path → Bool
is_within folder path = bytes_eq path folder || bytes_eq (take (length folder + 1) path) (folder ++ 47 ∷ [])

-- ---- what a step does

-- the path of a folder, given the part of a path before a name: `.` if that is empty
abbrev pub spelled : Path → Path
spelled [] = 46 ∷ []
spelled (c ∷ more) = c ∷ more

-- the folder that a path is in, if the path has a name
abbrev pub folder_of : Path → Option Path
folder_of path = option_map spelled (path_parent path)

-- the path is in the folder
abbrev pub is_in : Path → Option Path → Bool
is_in folder None = false
is_in folder (Some own) = bytes_eq own folder

-- the disk with this at the path
abbrev pub put : Path → At → Disk → Disk
put path at disk = λ q. if bytes_eq q path then at else disk q

-- a file with any bytes: they were never synced, or another name of the file may change them
abbrev pub unknown : Option File
unknown = Some (Torn [] [])

-- the file that is there, or a new one with no bytes
abbrev pub made : Option File → Option File
made None = Some (Torn [] [])
made (Some file) = Some file

-- if the file is new, its name may be lost
abbrev pub or_lost : Option File → List (Option File) → List (Option File)
or_lost None older = None ∷ older
or_lost (Some file) older = older

-- the file with more bytes appended
abbrev pub longer : Bytes → File → File
longer more (Whole bytes) = Torn bytes more
longer more (Torn front behind) = Torn front (behind ++ more)

-- the file with only its first `count` bytes
abbrev pub shorter : ℕ → File → File
shorter count (Whole bytes) = Torn (take count bytes) []
shorter count (Torn front behind) = Torn (take count front) (take (count - length front) behind)

-- the file after it was synced
abbrev pub synced : File → File
synced (Whole bytes) = Whole bytes
synced (Torn front behind) = Whole (front ++ behind)

-- the file after its sync failed: the bytes that weren't synced before aren't known any more
abbrev pub spoiled : Bytes → File → File
spoiled rest (Whole bytes) = Whole bytes
spoiled rest (Torn front behind) = Torn front rest

-- the path after its file changed
abbrev pub changed : (File → File) → At → At
changed f at = record { there = option_map f at.there; older = at.older }

-- the path after its file went away, which may come back
abbrev pub maybe_gone : At → At
maybe_gone at = record { there = None; older = at.there ∷ at.older }

-- anything may be at a path in a folder that was moved here: any file, or none
abbrev pub moved_in : At
moved_in = record { there = unknown; older = None ∷ [] }

-- The disk after a step that succeeded. A name that is new may be lost, and one that is gone may come back, until its
-- folder is synced. What comes back at a path from which a file was renamed may have any bytes.
abbrev pub after : Step → Disk → Disk
after (step.Write path bytes) disk = put path (record { there = Some (Torn [] bytes); older = or_lost (disk path).there (disk path).older }) disk
after (step.Create path) disk = put path (record { there = made (disk path).there; older = or_lost (disk path).there (disk path).older }) disk
after (step.Append path bytes) disk = put path (changed (longer bytes) (disk path)) disk
after (step.Cut path count) disk = put path (changed (shorter count) (disk path)) disk
after (step.Sync path) disk = put path (changed synced (disk path)) disk
after (step.Remove path) disk = put path (record { there = None; older = (disk path).there ∷ (disk path).older }) disk
after (step.Rename from to) disk =
    put to (record { there = (disk from).there; older = (disk to).there ∷ (disk to).older })
    (put from (record { there = None; older = unknown ∷ (disk from).older }) disk)
after (step.SyncFolder folder) disk = λ q. if is_in folder (folder_of q) then record { there = (disk q).there; older = [] } else disk q
after (step.MakeFolder folder) disk = disk
after (step.MoveAway from to) disk =
    λ q. if is_within to q then moved_in else (if is_within from q then record { there = None; older = [] } else disk q)
after (step.RemoveFolder folder) disk = λ q. if is_within folder q then maybe_gone (disk q) else disk q

-- The disk after a step that failed but took effect: a write took effect with any part of its bytes, and after a sync
-- nothing more is known. `rest` are the bytes that nobody knows.
abbrev pub after_failed : Step → Bytes → Disk → Disk
after_failed (step.Write path bytes) rest disk = after (step.Write path rest) disk
after_failed (step.Append path bytes) rest disk = after (step.Append path rest) disk
after_failed (step.Sync path) rest disk = put path (changed (spoiled rest) (disk path)) disk
after_failed (step.Create path) rest disk = after (step.Create path) disk
after_failed (step.Cut path count) rest disk = after (step.Cut path count) disk
after_failed (step.Remove path) rest disk = after (step.Remove path) disk
after_failed (step.Rename from to) rest disk = after (step.Rename from to) disk
after_failed (step.SyncFolder folder) rest disk = disk
after_failed (step.MakeFolder folder) rest disk = disk
after_failed (step.MoveAway from to) rest disk =
    λ q. if is_within to q then moved_in else (if is_within from q then maybe_gone (disk q) else disk q)
after_failed (step.RemoveFolder folder) rest disk = after (step.RemoveFolder folder) disk

-- what these calls may make of a disk; a call that failed took effect or did not
abbrev pub Becomes : Disk → List Call → Disk → Type 0
Becomes disk [] now = now ≡ disk
Becomes disk ((asked, true) ∷ more) now = Becomes (after asked disk) more now
Becomes disk ((asked, false) ∷ more) now = Becomes disk more now ⊎ ((rest : Bytes) × Becomes (after_failed asked rest disk) more now)

-- what a crash after these calls may leave at a path
abbrev pub MayLeave : Disk → List Call → Path → Option Bytes → Type 0
MayLeave disk calls path left = (now : Disk) × Becomes disk calls now × MayBe (now path) left
