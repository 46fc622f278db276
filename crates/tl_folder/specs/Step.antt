-- What a system is asked that changes files, one call each.
use Rattle.std.specs.Prelude.{ℕ, List}

-- the path of a file or folder as it is written; two different texts are two paths
abbrev pub Path : Type 0
Path = List ℕ

-- the bytes of a file
abbrev pub Bytes : Type 0
Bytes = List ℕ

-- one call of the system, which is named by what is true after it
pub data Step : Type 0 where
  -- the file at the path has exactly these bytes
  Write : Path → Bytes → Step
  -- a file is at the path: the one that was there, or a new one with no bytes
  Create : Path → Step
  -- the file at the path has these bytes more, at its end
  Append : Path → Bytes → Step
  -- the file at the path has only its first bytes, at most this many
  Cut : Path → ℕ → Step
  -- the bytes of the file at the path outlast a crash
  Sync : Path → Step
  -- nothing is at the path where a file was
  Remove : Path → Step
  -- the file of the first path is at the second, and what was there is replaced
  Rename : Path → Path → Step
  -- the names in the folder outlast a crash
  SyncFolder : Path → Step
  -- a folder is at the path where nothing was
  MakeFolder : Path → Step
  -- the folder of the first path is at the second, with all that is in it, and that outlasts a crash
  MoveAway : Path → Path → Step
  -- nothing is at the path, and a folder that was there is gone with all that was in it
  RemoveFolder : Path → Step
