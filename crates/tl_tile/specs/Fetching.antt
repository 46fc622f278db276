-- The tiles that a read fetches (C2SP tlog-tiles, "Merkle Tree" and "Partial Tiles").
use Rattle.std.specs.Prelude.{◌≡◌, ℕ, ◌+◌, ◌-◌, ◌*◌, ◌/◌, ◌%◌, ◌^◌, ◌<◌, List, ◌++◌, length, map, filter, reverse, nat_lt, Any, ◌⊎◌}
use Rattle.std.specs.List.{range_with_len}
use Rattle.tl_hash.specs.Bytes.{Bytes}
use Rattle.tl_store.specs.Stored.{stored_index}
use Rattle.tl_tile.specs.declared.resource.Tile.{Tile}
use Rattle.tl_tile.specs.declared.tile_reader.subtree.Subtree.{Subtree}
use Rattle.tl_tile.specs.TileText.{full_tile, partial_tile}
use Rattle.tl_tile.specs.Fetched.{tiles_in}

-- the full tile with this place of a level of tiles, or the one `up` levels above it
pub record IsOver (level place : ℕ) (t : Tile) : Type 0 where
  pub up : ℕ
  pub tile : t ≡ full_tile (level + up) (place / 256 ^ (up + 1))

-- a stored hash needs this full tile: the one with the hashes of its subtree, or one above that
pub record IsOverNumber (index : ℕ) (t : Tile) : Type 0 where
  pub subtree : Subtree
  pub number : stored_index subtree.level subtree.place ≡ index
  pub over : IsOver (subtree.level / 8) (subtree.place * 2 ^ (subtree.level % 8)) t

-- a partial tile of the size
abbrev pub IsPartialOf : ℕ → Tile → Type 0
IsPartialOf size t = (t ≡ partial_tile size t.level) × (0 < t.width)

-- stored hashes need this tile: all need each partial tile of the size, and each needs the full tiles over its
-- subtree
abbrev pub IsNeededFor : ℕ → List ℕ → Tile → Type 0
IsNeededFor size indexes t = ((0 < length indexes) × IsPartialOf size t) ⊎ Any (λ index. IsOverNumber index t) indexes

-- the partial tiles of the levels from this one up, the highest first
abbrev pub edge_from : ℕ → ℕ → List Tile
edge_from size level = filter (λ t. nat_lt 0 t.width) (map (partial_tile size) (reverse (range_with_len level (8 - level))))

-- all partial tiles of a size, from the highest level down
abbrev pub edge_tiles : ℕ → List Tile
edge_tiles size = edge_from size 0

-- the fetched tiles begin with all partial tiles
abbrev pub BeginsWithEdge : ℕ → List (Tile × Bytes) → Type 0
BeginsWithEdge size fetched = (rest : List Tile) × (tiles_in fetched ≡ edge_tiles size ++ rest)
