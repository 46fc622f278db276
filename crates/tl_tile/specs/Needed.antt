-- The resources that a log of a size must serve besides its checkpoint (C2SP tlog-tiles, "Partial Tiles" and "Log
-- Entries").
use Rattle.std.specs.Prelude.{ℕ, ◌-◌, ◌/◌, ◌%◌, List, [], ◌∷◌, ◌++◌, map, ◌==◌, ◌||◌, nat_lt, if◌then◌else◌}
use Rattle.std.specs.List.{flat_map, range_with_len}
use Rattle.tl_tile.specs.TileText.{level_count}
use Rattle.tl_tile.specs.declared.resource.Resource.{Resource}
use Rattle.tl_tile.specs.declared.resource.Resource.TheVariants as resource

-- a tile of a level, by its index and width
abbrev pub tile_at : ℕ → ℕ → ℕ → Resource
tile_at level index width = resource.Tile (record { level = level; index = index; width = width })

-- `count` hashes or entries in pieces of 256, by index: full ones, and a partial one for the rest
abbrev pub pieces : (ℕ → ℕ → Resource) → ℕ → List Resource
pieces piece count = map (λ index. piece index 256) (range_with_len 0 (count / 256))
    ++ (if count % 256 == 0 then [] else piece (count / 256) (count % 256) ∷ [])

-- the tiles by level, from 0 to 7, and then the bundles
abbrev pub needed_resources : ℕ → List Resource
needed_resources size = flat_map (λ level. pieces (tile_at level) (level_count size level)) (range_with_len 0 8)
    ++ pieces resource.Entries size

-- of these, the ones that `from` hashes or entries don't have: the full ones from there on, and the partial one
-- unless nothing was added
abbrev pub pieces_since : (ℕ → ℕ → Resource) → ℕ → ℕ → List Resource
pieces_since piece from count = map (λ index. piece index 256) (range_with_len (from / 256) (count / 256 - from / 256))
    ++ (if count % 256 == 0 || count == from then [] else piece (count / 256) (count % 256) ∷ [])

-- the tiles by level, and then the bundles, that a log of `size` entries serves and one of `from` doesn't
abbrev pub needed_resources_since : ℕ → ℕ → List Resource
needed_resources_since from size =
    flat_map (λ level. pieces_since (tile_at level) (level_count from level) (level_count size level)) (range_with_len 0 8)
    ++ pieces_since resource.Entries from size

-- the number of entries of the bundle with this index in a log of this size: 256, or the rest in the last one
abbrev pub bundle_width : ℕ → ℕ → ℕ
bundle_width size bundle = if nat_lt bundle (size / 256) then 256 else size % 256
