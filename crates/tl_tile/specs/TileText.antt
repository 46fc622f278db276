-- The bytes of a tile (C2SP tlog-tiles, "Merkle Tree").
use Rattle.std.specs.Prelude.{ℕ, ◌+◌, ◌*◌, ◌/◌, ◌%◌, ◌^◌, List, take, drop, nat_lt, if◌then◌else◌}
use Rattle.std.specs.List.{flat_map, range_with_len}
use Rattle.tl_hash.specs.Bytes.{Bytes, Digest}
use Rattle.tl_hash.specs.Tree.{tree_hash}
use Rattle.tl_tile.specs.declared.resource.Tile.{Tile}

-- the number of hashes that a level of tiles has in a log of this size: one for each full 256 ^ level entries
abbrev pub level_count : ℕ → ℕ → ℕ
level_count size level = size / 256 ^ level

-- the entries under one hash of a level
abbrev pub entries_under : ℕ → ℕ → List Bytes → List Bytes
entries_under level place entries = take (256 ^ level) (drop (place * 256 ^ level) entries)

-- `count` hashes of a level, from a place on
abbrev pub level_hashes : Digest → ℕ → ℕ → ℕ → List Bytes → Bytes
level_hashes H level place count entries =
    flat_map (λ i. tree_hash H (entries_under level (place + i) entries)) (range_with_len 0 count)

-- the bytes of a tile: its hashes, one after another
abbrev pub tile_text : Digest → Tile → List Bytes → Bytes
tile_text H t entries = level_hashes H t.level (t.index * 256) t.width entries

-- the full tile of a level with this index
abbrev pub full_tile : ℕ → ℕ → Tile
full_tile level index = record { level = level; index = index; width = 256 }

-- the partial tile of a level: the hashes after its last full tile; if there are none, its width is 0
abbrev pub partial_tile : ℕ → ℕ → Tile
partial_tile size level =
    record { level = level; index = level_count size level / 256; width = level_count size level % 256 }

-- the tile with the hash at this place of a level
abbrev pub tile_with : ℕ → ℕ → ℕ → Tile
tile_with size level place =
    if nat_lt (place / 256) (level_count size level / 256) then full_tile level (place / 256)
    else partial_tile size level
