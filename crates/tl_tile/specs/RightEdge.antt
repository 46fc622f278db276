-- The right edge of a growing log: the partial tiles of its size, and the full tiles that an entry completes (C2SP
-- tlog-tiles, "Partial Tiles"). The levels of tiles are 0 to 7.
use Rattle.std.specs.Prelude.{◌≡◌, ℕ, zero, suc, ◌+◌, ◌-◌, ◌*◌, ◌/◌, ◌%◌, ◌^◌, ◌<◌, List, [], ◌++◌, length, take, map, filter, ◌==◌, Option, Some, None, if◌then◌else◌}
use Rattle.std.specs.List.{flat_map, range_with_len}
use Rattle.tl_hash.specs.Bytes.{Bytes, Digest}
use Rattle.tl_hash.specs.Tree.{tree_hash}
use Rattle.tl_tile.specs.declared.resource.Tile.{Tile}
use Rattle.tl_tile.specs.TileText.{level_count, entries_under, full_tile, partial_tile, tile_text}

-- ---- tiles with their bytes

-- a tile with its bytes over the entries
abbrev pub shown : Digest → List Bytes → Tile → Tile × Bytes
shown H entries t = (t, tile_text H t entries)

-- the partial tile of a level with its bytes, if there is one
abbrev pub shown_partial : Digest → List Bytes → ℕ → Option (Tile × Bytes)
shown_partial H entries level =
    if level_count (length entries) level % 256 == 0 then None
    else Some (shown H entries (partial_tile (length entries) level))

-- the levels whose last tile is full with the n-th entry, from 0 up
abbrev pub filled_levels : ℕ → List ℕ
filled_levels n = filter (λ level. n % 256 ^ (level + 1) == 0) (range_with_len 0 8)

-- the tiles that the n-th entry completes, by level
abbrev pub filled_tiles : ℕ → List Tile
filled_tiles n = map (λ level. full_tile level (n / 256 ^ (level + 1) - 1)) (filled_levels n)

-- the full tiles that the last of the entries completes, with their bytes
abbrev pub shown_filled : Digest → List Bytes → List (Tile × Bytes)
shown_filled H entries = map (shown H entries) (filled_tiles (length entries))

-- the full tiles that the entries after the first `from` complete, with their bytes: those of each entry in turn
abbrev pub shown_since : Digest → ℕ → List Bytes → List (Tile × Bytes)
shown_since H from entries =
    flat_map (λ count. shown_filled H (take count entries)) (range_with_len (from + 1) (length entries - from))

-- ---- what a right edge keeps

-- the hashes of the partial tiles of the levels below this one, the highest level first
unfoldable pub hashes_below : Digest → List Bytes → ℕ → List Bytes
hashes_below H entries zero = []
hashes_below H entries (suc level) =
    let count : ℕ = level_count (length entries) level in
    map (λ place. tree_hash H (entries_under level place entries)) (range_with_len (count / 256 * 256) (count % 256))
    ++ hashes_below H entries level

-- the number of these hashes for a size
unfoldable pub count_below : ℕ → ℕ → ℕ
count_below size zero = 0
count_below size (suc level) = level_count size level % 256 + count_below size level

-- the number of entries, and the hashes of all partial tiles
pub record EdgeContents : Type 0 where
  pub size : ℕ
  pub kept : List Bytes
  -- the number of hashes that there is memory for
  pub room : ℕ

-- the edge has the size of these entries, fewer than 2 ^ 32, and the hashes of their partial tiles under this digest
-- function, those of the highest level first
abbrev pub IsEdgeOf : EdgeContents → Digest → List Bytes → Type 0
IsEdgeOf edge H entries =
    (length entries ≡ edge.size) × (length entries < 2 ^ 32) × (edge.kept ≡ hashes_below H entries 8)
