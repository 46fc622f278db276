-- What each step of a read does to the fetched tiles.
use Rattle.std.specs.Prelude.{◌≡◌, ℕ, ◌+◌, ◌*◌, ◌/◌, ◌%◌, ◌^◌, ◌<◌, ◌≤◌, Bool, true, false, List, [], ◌∷◌, ◌++◌, Some, None, ◌⊎◌}
use Rattle.std.specs.List.{AllZip}
use Rattle.tl_hash.specs.Bytes.{Bytes, Digest}
use Rattle.tl_store.specs.Stored.{stored_index}
use Rattle.tl_tile.specs.declared.resource.Tile.{Tile}
use Rattle.tl_tile.specs.declared.tile_reader.subtree.Subtree.{Subtree}
use Rattle.tl_tile.specs.TileText.{level_count, full_tile, tile_with}
use Rattle.tl_tile.specs.Folds.{Tiles, IsSubtreeHash}
use Rattle.tl_tile.specs.FetchedEdge.{IsEdgeLevel}
use Rattle.tl_tile.specs.Fetched.{tiles_of, tiles_in}
use Rattle.tl_tile.specs.Source.{Answers, AreAnswers, AreLong, HasTileWith}
use Rattle.tl_tile.specs.Fetching.{edge_from}
use Rattle.tl_tile.specs.Verified.{AreInOrder, ComesNext}

-- the tiles of a read so far, good or bad: returned by the source, in order
pub record AreFetched (may_answer : Tile → Bytes → Type 0) (H : Digest) (size : ℕ) (root : Bytes) (fetched : List (Tile × Bytes)) : Type 0 where
  pub answers : AreAnswers may_answer size fetched
  pub order : AreInOrder H size root fetched

-- the partial tiles from this level up were fetched, and no other tiles
pub record AreEdgeFrom (size level : ℕ) (fetched : List (Tile × Bytes)) : Type 0 where
  pub tiles : tiles_in fetched ≡ edge_from size level
  pub long : AreLong (tiles_of fetched)
  pub partial : (t : Tile) (text : Bytes) → tiles_of fetched t ≡ Some text → (t.width < 256) × (level ≤ t.level)
  pub edge : (l : ℕ) → level ≤ l → l < 8 → 0 < level_count size l % 256 → (text : Bytes) × IsEdgeLevel (tiles_of fetched) size l text

-- this tile was added, which comes next, with a text that the source may return; or nothing was added
abbrev pub AddsOnly : (Tile → Bytes → Type 0) → Digest → ℕ → Bytes → Tile → List (Tile × Bytes) → List (Tile × Bytes) → Type 0
AddsOnly may_answer H size root t before after =
    (after ≡ before)
    ⊎ ((text : Bytes) × (after ≡ before ++ (t, text) ∷ []) × Answers may_answer size t text × ComesNext H size root before t)

-- the tile with this place of a level wasn't fetched: it is a full one, and there is a tile above it
pub record IsNotFetched (tiles : Tiles) (size level place : ℕ) : Type 0 where
  pub low : level < 7
  pub above : place / 256 < level_count size (level + 1)
  pub full : tile_with size level place ≡ full_tile level (place / 256)
  pub none : tiles (full_tile level (place / 256)) ≡ None

-- whether the tile with this place was fetched
abbrev pub IsThere : Tiles → ℕ → ℕ → ℕ → Bool → Type 0
IsThere tiles size level place true = HasTileWith tiles size level place
IsThere tiles size level place false = IsNotFetched tiles size level place

-- a complete subtree of a log of this size
abbrev pub IsSubtreeOf : ℕ → Subtree → Type 0
IsSubtreeOf size p = (p.level ≤ 62) × ((p.place + 1) * 2 ^ p.level ≤ size)

-- the tiles have this hash for the subtree with this number among the stored hashes
pub record IsHashOfNumber (H : Digest) (tiles : Tiles) (size index : ℕ) (hash : Bytes) : Type 0 where
  pub subtree : Subtree
  pub within : IsSubtreeOf size subtree
  pub number : stored_index subtree.level subtree.place ≡ index
  pub hash_is : IsSubtreeHash H tiles size subtree.level subtree.place hash

-- the hashes that the tiles have for the subtrees with these numbers
abbrev pub AreHashesOf : Digest → Tiles → ℕ → List ℕ → List Bytes → Type 0
AreHashesOf H tiles size indexes hashes = AllZip (λ index hash. IsHashOfNumber H tiles size index hash) indexes hashes
