-- Folding the hashes of fetched tiles: to the root of a log, and to the hashes of its subtrees (RFC 6962, section
-- 2.1; C2SP tlog-tiles, "Merkle Tree").
use Rattle.std.specs.Prelude.{◌≡◌, ◌≢◌, ℕ, ◌+◌, ◌-◌, ◌*◌, ◌/◌, ◌%◌, ◌^◌, ◌<◌, ◌≤◌, List, [], ◌∷◌, ◌++◌, length, take, drop, Option, Some, Contains, ◌⊎◌}
use Rattle.tl_hash.specs.Bytes.{Bytes, Digest}
use Rattle.tl_hash.specs.Split.{IsSplit}
use Rattle.tl_hash.specs.Tree.{node_input, inputs}
use Rattle.tl_tile.specs.declared.resource.Tile.{Tile}
use Rattle.tl_tile.specs.TileText.{level_count, full_tile, partial_tile, tile_with}

-- ---- folding hashes

-- no hash is given of the run of `count` places from `start` on
abbrev pub IsNotGiven : (ℕ → ℕ → Bytes → Type 0) → ℕ → ℕ → Type 0
IsNotGiven IsGiven start count = (hash : Bytes) → IsGiven start count hash → ⊥

-- A fold: the tree hash over a run of `count` places from `start` on. `IsGiven` says of which runs a hash is given. A
-- fold has one hash, and the list of the strings that are hashed for it.
pub data IsFold (H : Digest) (IsGiven : ℕ → ℕ → Bytes → Type 0) : ℕ → ℕ → Bytes → List Bytes → Type 0 where
  -- of no places: the digest of no bytes
  nothing : (start : ℕ) → IsFold H IsGiven start 0 (H []) ([] ∷ [])
  -- of a run whose hash is given: that hash, and nothing is hashed
  given : (start count : ℕ) (hash : Bytes) → 0 < count → IsGiven start count hash → IsFold H IsGiven start count hash []
  -- of any other run: the digest of a node over its two parts, split where the tree splits
  split : (start count k : ℕ) (left right : Bytes) (lefts rights : List Bytes)
      → IsNotGiven IsGiven start count → IsSplit k count
      → IsFold H IsGiven start k left lefts → IsFold H IsGiven (start + k) (count - k) right rights
      → IsFold H IsGiven start count (H (node_input left right)) (node_input left right ∷ lefts ++ rights)

-- the texts of the fetched tiles
abbrev pub Tiles : Type 0
Tiles = Tile → Option Bytes

-- the hash with this number in a tile's text, of 32 bytes
pub record IsHashAt (text : Bytes) (number : ℕ) (hash : Bytes) : Type 0 where
  pub bytes : hash ≡ take 32 (drop (32 * number) text)
  pub whole : length hash ≡ 32

-- ---- the partial tiles

-- a place of a level is in the level's partial tile
abbrev pub IsOnEdge : ℕ → ℕ → ℕ → Type 0
IsOnEdge size level place = (level_count size level / 256 * 256 ≤ place) × (place < level_count size level)

-- a hash of a partial tile: that of the 256 ^ level entries at one of its places
pub record IsEdgeHash (tiles : Tiles) (size start count : ℕ) (hash : Bytes) : Type 0 where
  pub level : ℕ
  pub place : ℕ
  pub text : Bytes
  pub starts : start ≡ place * 256 ^ level
  pub counts : count ≡ 256 ^ level
  pub on_edge : IsOnEdge size level place
  pub fetched : tiles (partial_tile size level) ≡ Some text
  pub there : IsHashAt text (place % 256) hash

-- the root that the hashes of the partial tiles fold to, and the strings hashed for it
abbrev pub IsEdgeRoot : Digest → Tiles → ℕ → Bytes → List Bytes → Type 0
IsEdgeRoot H tiles size root strings = IsFold H (IsEdgeHash tiles size) 0 size root strings

-- ---- one tile

-- a hash of a tile: that of one place
abbrev pub IsOwnHash : Bytes → ℕ → ℕ → Bytes → Type 0
IsOwnHash text start count hash = (count ≡ 1) × IsHashAt text start hash

-- the hash that `count` hashes of a tile fold to, from hash `start` on, and the strings hashed for it
abbrev pub IsPartHash : Digest → Bytes → ℕ → ℕ → Bytes → List Bytes → Type 0
IsPartHash H text start count hash strings = IsFold H (IsOwnHash text) start count hash strings

-- the hash that all hashes of a full tile fold to, and the strings hashed for it
abbrev pub IsTileHash : Digest → Bytes → Bytes → List Bytes → Type 0
IsTileHash H text hash strings = IsPartHash H text 0 256 hash strings

-- ---- checked tiles

-- a full tile folds to the hash that the tile above has for it, and the tile above was fetched too
pub record FoldsToAbove (H : Digest) (tiles : Tiles) (size level index : ℕ) (text : Bytes) : Type 0 where
  pub above : Bytes
  pub hash : Bytes
  pub strings : List Bytes
  pub fetched : tiles (tile_with size (level + 1) index) ≡ Some above
  pub there : IsHashAt above (index % 256) hash
  pub folds : IsTileHash H text hash strings

-- what a client checks of the tiles that it fetched: the partial ones fold to the root, and each full one folds to
-- its hash in the tile above
pub record AreChecked (H : Digest) (tiles : Tiles) (size : ℕ) (root : Bytes) : Type 0 where
  pub strings : List Bytes
  pub folds : IsEdgeRoot H tiles size root strings
  pub full : (level index : ℕ) (text : Bytes) → index < level_count size (level + 1)
      → tiles (full_tile level index) ≡ Some text → FoldsToAbove H tiles size level index text

-- the hash of the complete subtree over 2 ^ level entries at this place: the one that its hashes of level / 8 fold
-- to, which are next to each other in one tile
pub record IsSubtreeHash (H : Digest) (tiles : Tiles) (size level place : ℕ) (hash : Bytes) : Type 0 where
  pub text : Bytes
  pub strings : List Bytes
  pub fetched : tiles (tile_with size (level / 8) (place * 2 ^ (level % 8))) ≡ Some text
  pub folds : IsPartHash H text (place * 2 ^ (level % 8) % 256) (2 ^ (level % 8)) hash strings

-- ---- collisions

-- a string that is hashed when the partial tiles are folded to a root
pub record IsFoldedForRoot (H : Digest) (tiles : Tiles) (size : ℕ) (string : Bytes) : Type 0 where
  pub root : Bytes
  pub strings : List Bytes
  pub folds : IsEdgeRoot H tiles size root strings
  pub among : Contains strings string

-- a string that is hashed when a full tile is folded
pub record IsFoldedForTile (H : Digest) (tiles : Tiles) (string : Bytes) : Type 0 where
  pub level : ℕ
  pub index : ℕ
  pub text : Bytes
  pub hash : Bytes
  pub strings : List Bytes
  pub fetched : tiles (full_tile level index) ≡ Some text
  pub folds : IsTileHash H text hash strings
  pub among : Contains strings string

-- a string that is hashed for the root or for one of the full tiles
abbrev pub IsFolded : Digest → Tiles → ℕ → Bytes → Type 0
IsFolded H tiles size string = IsFoldedForRoot H tiles size string ⊎ IsFoldedForTile H tiles string

-- an input of the tree over the entries and a string hashed for the tiles differ and have one digest
pub record TilesCollide (H : Digest) (tiles : Tiles) (size : ℕ) (entries : List Bytes) : Type 0 where
  pub x : Bytes
  pub y : Bytes
  pub input : Contains (inputs H entries) x
  pub folded : IsFolded H tiles size y
  pub differ : x ≢ y
  pub same_digest : H x ≡ H y
