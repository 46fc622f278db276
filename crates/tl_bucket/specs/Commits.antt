-- The bytes of a commit, by which an operator appends entries (for the entries C2SP tlog-tiles, "Log Entries").
use Rattle.std.specs.Prelude.{◌≡◌, ℕ, List, [], ◌++◌, codes, length}
use Rattle.tl_hash.specs.Bytes.{Bytes}
use Rattle.tl_text.specs.Text.{line, number_text, HasNoControl, IsSize}
use Rattle.tl_tile.specs.Bundle.{bundle_text, AreShortEntries}

-- a commit: how many entries come before it, a token that identifies the run that made it, and the entries that it
-- appends
pub record Commit : Type 0 where
  pub start : ℕ
  pub token : Bytes
  pub entries : List Bytes

-- the bytes before the entries of a commit
abbrev pub commit_front : ℕ → Bytes → Bytes
commit_front start token = line (codes "tlog commit") ++ line (number_text start) ++ line token ++ line []

-- the bytes of a commit
abbrev pub commit_text : Commit → Bytes
commit_text c = commit_front c.start c.token ++ bundle_text c.entries

-- the bytes are those of the commit
pub record IsCommit (bytes : Bytes) (c : Commit) : Type 0 where
  pub bounded : IsSize c.start
  pub plain : HasNoControl c.token
  pub short : AreShortEntries c.entries
  pub spelled : bytes ≡ commit_text c

-- the bytes are those of `count` entries, each with its length before it, and then these
pub record IsBehind (bytes : Bytes) (count : ℕ) (rest : Bytes) : Type 0 where
  pub entries : List Bytes
  pub short : AreShortEntries entries
  pub counted : length entries ≡ count
  pub spelled : bytes ≡ bundle_text entries ++ rest
