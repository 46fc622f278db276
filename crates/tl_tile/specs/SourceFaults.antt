-- When reading from a source of tiles fails.
use Rattle.std.specs.Prelude.{◌≡◌, ◌≢◌, ℕ, ◌+◌, ◌*◌, ◌%◌, ◌<◌, List, [], ◌∷◌, ◌++◌, length, ◌⊎◌}
use Rattle.tl_hash.specs.Bytes.{Bytes, Digest}
use Rattle.tl_hash.specs.Tree.{tree_hash}
use Rattle.tl_store.specs.declared.reader.ReadFault.{ReadFault}
use Rattle.tl_store.specs.declared.reader.ReadFault.TheVariants.{OutOfRange, Source, OutOfMemory, BadTile}
use Rattle.tl_tile.specs.declared.resource.Tile.{Tile}
use Rattle.tl_tile.specs.TileText.{level_count, full_tile, partial_tile, tile_text}
use Rattle.tl_tile.specs.Folds.{IsEdgeRoot, IsTileHash}
use Rattle.tl_tile.specs.Fetched.{tiles_of, tiles_in}
use Rattle.tl_tile.specs.Source.{IsTileOf, IsHashWith, AreAnswers}
use Rattle.tl_tile.specs.Fetching.{edge_tiles}
use Rattle.tl_tile.specs.Verified.{ComesNext}

-- the tile was fetched last, with this text
abbrev pub IsLast : Tile → Bytes → List (Tile × Bytes) → Type 0
IsLast t text fetched = (before : List (Tile × Bytes)) × (fetched ≡ before ++ (t, text) ∷ [])

-- the tile that was fetched last has a text of another length
abbrev pub HasBadLength : List (Tile × Bytes) → Tile → Type 0
HasBadLength fetched t = (text : Bytes) × IsLast t text fetched × (length text ≢ 32 * t.width)

-- all partial tiles and no others were fetched, and they fold to another root; this one is the highest
pub record IsBadEdge (H : Digest) (size : ℕ) (root : Bytes) (fetched : List (Tile × Bytes)) (t : Tile) : Type 0 where
  pub other : Bytes
  pub strings : List Bytes
  pub all : tiles_in fetched ≡ edge_tiles size
  pub partial : t ≡ partial_tile size t.level
  pub highest : (level : ℕ) → t.level < level → level_count size level % 256 ≡ 0
  pub folds : IsEdgeRoot H (tiles_of fetched) size other strings
  pub differ : other ≢ root

-- the tile that was fetched last is a full one, and folds to another hash than the tile above has for it
pub record IsBadFull (H : Digest) (size : ℕ) (fetched : List (Tile × Bytes)) (t : Tile) : Type 0 where
  pub text : Bytes
  pub own : Bytes
  pub hash : Bytes
  pub strings : List Bytes
  pub last : IsLast t text fetched
  pub full : t ≡ full_tile t.level t.index
  pub below : t.index < level_count size (t.level + 1)
  pub above : IsHashWith (tiles_of fetched) size (t.level + 1) t.index own
  pub folds : IsTileHash H text hash strings
  pub differ : own ≢ hash

-- a fetched tile of the log that the root doesn't confirm: it has a bad length, or is the highest of partial tiles
-- that fold to another root, or is a full one that folds to another hash than the tile above has for it
pub record IsBadTile (H : Digest) (size : ℕ) (root : Bytes) (fetched : List (Tile × Bytes)) (t : Tile) : Type 0 where
  pub of_log : IsTileOf size t
  pub because : HasBadLength fetched t ⊎ (IsBadEdge H size root fetched t ⊎ IsBadFull H size fetched t)

-- a tile of the log that the source may lack, and that comes next after those fetched
pub record IsLacking (H : Digest) (may_lack : Tile → Type 0) (size : ℕ) (root : Bytes) (fetched : List (Tile × Bytes)) (t : Tile) : Type 0 where
  pub lacks : may_lack t
  pub of_log : IsTileOf size t
  pub next : ComesNext H size root fetched t

-- what a fault of a read whose numbers are all in range says of the fetched tiles
abbrev pub GivesReadFault : Digest → (Tile → Type 0) → ℕ → Bytes → List (Tile × Bytes) → ReadFault → Type 0
GivesReadFault H may_lack size root fetched OutOfRange = ⊥
GivesReadFault H may_lack size root fetched Source = (t : Tile) × IsLacking H may_lack size root fetched t
GivesReadFault H may_lack size root fetched OutOfMemory = Unit {0}
GivesReadFault H may_lack size root fetched (BadTile level index width) =
    IsBadTile H size root fetched (record { level = level; index = index; width = width })

-- a read over this source may fail with this fault, for some tiles that the source may return
abbrev pub MayGive : Digest → (Tile → Bytes → Type 0) → (Tile → Type 0) → ℕ → Bytes → ReadFault → Type 0
MayGive H may_answer may_lack size root fault =
    (fetched : List (Tile × Bytes)) × AreAnswers may_answer size fetched × GivesReadFault H may_lack size root fetched fault

-- a read over a source that has each tile over the entries fails only if memory runs out
abbrev pub HonestSourceIsRead : (Tile → Bytes → Type 0) → (Tile → Type 0) → Type 0
HonestSourceIsRead may_answer may_lack =
    (H : Digest) → ((message : Bytes) → length (H message) ≡ 32)
    → (entries : List Bytes)
    → ((t : Tile) (text : Bytes) → IsTileOf (length entries) t → may_answer t text → text ≡ tile_text H t entries)
    → ((t : Tile) → IsTileOf (length entries) t → may_lack t → ⊥)
    → (fault : ReadFault) → MayGive H may_answer may_lack (length entries) (tree_hash H entries) fault → fault ≡ OutOfMemory
