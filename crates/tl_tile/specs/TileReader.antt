-- A reader of stored hashes over a source of tiles that is not trusted, against a size and a root.
use Rattle.std.specs.Prelude.{◌≡◌, ◌<◌, ◌≤◌, ◌^◌, ℕ, List, [], length, map, Any, ◌⊎◌}
use Rattle.tl_hash.specs.Bytes.{Bytes, Digest}
use Rattle.tl_hash.specs.Tree.{tree_hash}
use Rattle.tl_store.specs.Stored.{stored_hash}
use Rattle.tl_store.specs.Reader.{readable_count, AreReadable}
use Rattle.tl_store.specs.declared.reader.ReadFault.{ReadFault}
use Rattle.tl_store.specs.declared.reader.ReadFault.TheVariants.{OutOfRange, Source, OutOfMemory, BadTile}
use Rattle.tl_tile.specs.declared.resource.Tile.{Tile}
use Rattle.tl_tile.specs.Folds.{TilesCollide}
use Rattle.tl_tile.specs.TileLaws.{AreHonest}
use Rattle.tl_tile.specs.Fetched.{tiles_of}
use Rattle.tl_tile.specs.Source.{AreAnswers}
use Rattle.tl_tile.specs.Fetching.{IsNeededFor}
use Rattle.tl_tile.specs.SourceFaults.{IsLacking, IsBadTile}

-- a source, and the size and the root that its tiles are checked against
pub record Against (S : Type 0) : Type 0 where
  pub source : S
  pub size : ℕ
  pub root : Bytes

-- one read: the size and root that tiles are checked against, the numbers that were asked for, and the fetched tiles
pub record Reading : Type 0 where
  pub size : ℕ
  pub root : Bytes
  pub indexes : List ℕ
  pub fetched : List (Tile × Bytes)

-- the stored hashes of the entries with the numbers that were asked for
abbrev pub stored_hashes : Digest → List Bytes → Reading → List Bytes
stored_hashes H entries read = map (stored_hash H entries) read.indexes

-- authenticated hashes
pub record AreAuthentic (H : Digest) (read : Reading) (hashes : List Bytes) : Type 0 where
  -- they are the stored hashes of each list of this size and root, or an input of the list and a string that was
  -- hashed for these tiles collide
  pub stored : (entries : List Bytes) → length entries ≡ read.size → tree_hash H entries ≡ read.root
      → (hashes ≡ stored_hashes H entries read) ⊎ TilesCollide H (tiles_of read.fetched) read.size entries
  -- if these tiles are the tiles over a list, they are its stored hashes
  pub honest : (entries : List Bytes) → length entries ≡ read.size → AreHonest H (tiles_of read.fetched) entries
      → hashes ≡ stored_hashes H entries read

-- authenticated hashes of a read that fetched some tiles that the source may return
abbrev pub AreAuthenticOver : (Tile → Bytes → Type 0) → Digest → ℕ → Bytes → List ℕ → List Bytes → Type 0
AreAuthenticOver may_answer H size root indexes hashes =
    (fetched : List (Tile × Bytes)) × AreAnswers may_answer size fetched
    × AreAuthentic H (record { size = size; root = root; indexes = indexes; fetched = fetched }) hashes

-- all numbers are in range, and there is one
abbrev pub IsAsking : Reading → Type 0
IsAsking read = AreReadable read.size read.indexes × (0 < length read.indexes)

-- a number is out of range
abbrev pub AsksTooFar : Reading → Type 0
AsksTooFar read = Any (λ index. readable_count read.size ≤ index) read.indexes

-- a tile that the numbers need and the source may lack comes next after those fetched
abbrev pub LacksNeeded : Digest → (Tile → Type 0) → Reading → Type 0
LacksNeeded H may_lack read =
    (t : Tile) × IsLacking H (λ t. may_lack t × IsNeededFor read.size read.indexes t) read.size read.root read.fetched t

-- what a fault of a read says of its numbers, and of the fetched tiles before it and after it
abbrev pub GivesFaultAfter : Digest → (Tile → Type 0) → List (Tile × Bytes) → Reading → ReadFault → Type 0
GivesFaultAfter H may_lack before read OutOfRange = AsksTooFar read × (read.fetched ≡ before)
GivesFaultAfter H may_lack before read Source = IsAsking read × LacksNeeded H may_lack read
GivesFaultAfter H may_lack before read OutOfMemory = IsAsking read
GivesFaultAfter H may_lack before read (BadTile level index width) =
    IsAsking read × IsBadTile H read.size read.root read.fetched (record { level = level; index = index; width = width })

-- what a fault of a read says if no tiles were fetched before it
abbrev pub GivesNumbersFault : Digest → (Tile → Type 0) → Reading → ReadFault → Type 0
GivesNumbersFault H may_lack read fault = GivesFaultAfter H may_lack [] read fault

-- the reader stands for the lists of its size and root, under its own digest function, if no input of the list
-- collides with a string that is hashed for tiles that the source may return
abbrev pub StandsAgainst : Digest → (Tile → Bytes → Type 0) → ℕ → Bytes → Digest → List Bytes → Type 0
StandsAgainst own may_answer size root H entries =
    (length entries ≡ size) × (length entries ≤ 2 ^ 62) × (H ≡ own) × (tree_hash H entries ≡ root)
    × ((fetched : List (Tile × Bytes)) → AreAnswers may_answer size fetched → TilesCollide H (tiles_of fetched) size entries → ⊥)
