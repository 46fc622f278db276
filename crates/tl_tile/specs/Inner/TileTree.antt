-- All hashes of the fold of a full tile.
use Rattle.std.specs.Prelude.{◌≡◌, ℕ, ◌+◌, ◌-◌, ◌*◌, ◌<◌, Option, Some, List, [], length, slice_index_or}
use Rattle.std.specs.Int.{IsPowerOfTwo}
use Rattle.tl_hash.specs.Bytes.{Bytes, Digest}
use Rattle.tl_tile.specs.TileText.{full_tile}
use Rattle.tl_tile.specs.Folds.{Tiles, IsHashAt}
use Rattle.tl_tile.specs.Inner.EdgeRoot.{Part}

-- the place at which the hashes of a level of the tree begin, among those of all levels from the lowest up; the level
-- has `count` hashes
abbrev pub level_start : ℕ → ℕ
level_start count = 512 - 2 * count

-- the first of the 511 hashes of a tile's tree: the tile's own 256, and then those of the next levels
pub record IsTreeSoFar (H : Digest) (text : Bytes) (made : ℕ) (hashes : List Bytes) : Type 0 where
  pub many : length hashes ≡ made
  pub own : (number : ℕ) → number < 256 → IsHashAt text number (slice_index_or hashes number [])
  pub parts : (count width place : ℕ) → IsPowerOfTwo width → count * width ≡ 256 → place < count → level_start count + place < made
      → Part H text (place * width) width (slice_index_or hashes (level_start count + place) [])

-- the hashes of a tile's tree
abbrev pub IsTileTree : Digest → Bytes → List Bytes → Type 0
IsTileTree H text hashes = IsTreeSoFar H text 511 hashes

-- the trees of full tiles, by level and index
abbrev pub Trees : Type 0
Trees = ℕ → ℕ → Option (List Bytes)

-- the trees of fetched full tiles
pub record AreTreesOf (H : Digest) (tiles : Tiles) (trees : Trees) : Type 0 where
  pub found : (level index : ℕ) (hashes : List Bytes) → trees level index ≡ Some hashes
      → (text : Bytes) × (tiles (full_tile level index) ≡ Some text) × IsTileTree H text hashes
