-- The numbers of a tile's hashes among the stored hashes.
use Rattle.std.specs.Prelude.{ℕ, ◌+◌, ◌*◌, List, map}
use Rattle.std.specs.List.{range_with_len}
use Rattle.tl_store.specs.Stored.{stored_index}
use Rattle.tl_tile.specs.declared.resource.Tile.{Tile}

-- the number of each hash of the tile among the stored hashes
abbrev pub tile_numbers : Tile → List ℕ
tile_numbers t = map (λ i. stored_index (8 * t.level) (t.index * 256 + i)) (range_with_len 0 t.width)
