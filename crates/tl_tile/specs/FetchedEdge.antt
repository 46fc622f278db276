-- The right edge of a log: the partial tiles of its size (C2SP tlog-tiles, "Partial Tiles").
use Rattle.std.specs.Prelude.{◌≡◌, ℕ, ◌*◌, ◌%◌, ◌<◌, length, Some}
use Rattle.tl_hash.specs.Bytes.{Bytes}
use Rattle.tl_tile.specs.TileText.{level_count, partial_tile}
use Rattle.tl_tile.specs.Folds.{Tiles}

-- the partial tile of a level was fetched, and its text has a hash for each of its places
pub record IsEdgeLevel (tiles : Tiles) (size level : ℕ) (text : Bytes) : Type 0 where
  pub fetched : tiles (partial_tile size level) ≡ Some text
  pub long : length text ≡ 32 * (level_count size level % 256)

-- each partial tile of the size was fetched
abbrev pub HasEdge : Tiles → ℕ → Type 0
HasEdge tiles size = (level : ℕ) → level < 8 → 0 < level_count size level % 256 → (text : Bytes) × IsEdgeLevel tiles size level text
