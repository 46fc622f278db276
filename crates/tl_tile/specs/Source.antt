-- What a client gets from a source of tiles that it does not trust.
use Rattle.std.specs.Prelude.{◌≡◌, ℕ, ◌+◌, ◌*◌, ◌%◌, ◌<◌, List, length, All, Some, ◌⊎◌}
use Rattle.tl_hash.specs.Bytes.{Bytes}
use Rattle.tl_tile.specs.declared.resource.Tile.{Tile}
use Rattle.tl_tile.specs.TileText.{level_count, full_tile, partial_tile, tile_with}
use Rattle.tl_tile.specs.Folds.{Tiles, IsHashAt}

-- a tile of a log of this size
abbrev pub IsTileOf : ℕ → Tile → Type 0
IsTileOf size t =
    ((t ≡ full_tile t.level t.index) × (t.index < level_count size (t.level + 1)))
    ⊎ ((t ≡ partial_tile size t.level) × (0 < t.width))

-- a text that the source may return for a tile of a log of this size
abbrev pub Answers : (Tile → Bytes → Type 0) → ℕ → Tile → Bytes → Type 0
Answers may_answer size t text = IsTileOf size t × may_answer t text

-- each is a tile of a log of this size, with a text that the source may return for it
abbrev pub AreAnswers : (Tile → Bytes → Type 0) → ℕ → List (Tile × Bytes) → Type 0
AreAnswers may_answer size fetched = All (λ f. Answers may_answer size f.0 f.1) fetched

-- each text has 32 bytes for each hash of its tile
abbrev pub AreLong : Tiles → Type 0
AreLong tiles = (t : Tile) (text : Bytes) → tiles t ≡ Some text → length text ≡ 32 * t.width

-- the tile with the hash at this place of a level was fetched
abbrev pub HasTileWith : Tiles → ℕ → ℕ → ℕ → Type 0
HasTileWith tiles size level place = (text : Bytes) × (tiles (tile_with size level place) ≡ Some text)

-- the hash at this place of a level, in the tile that has it
abbrev pub IsHashWith : Tiles → ℕ → ℕ → ℕ → Bytes → Type 0
IsHashWith tiles size level place hash = (text : Bytes) × (tiles (tile_with size level place) ≡ Some text) × IsHashAt text (place % 256) hash
