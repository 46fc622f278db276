-- When a row of a log has a tile or bundle, by arithmetic (C2SP tlog-tiles, "Partial Tiles").
use Rattle.std.specs.Prelude.{◌≡◌, ℕ, ◌+◌, ◌*◌, ◌<◌, ◌≤◌, ◌⊎◌, List}
use Rattle.std.specs.List.{Any}
use Rattle.tl_tile.specs.TileText.{level_count}

-- a row of `count` hashes or entries, cut into pieces of 256, has this piece: a full one, or the partial one at its end
abbrev pub HasPiece : ℕ → ℕ → ℕ → Type 0
HasPiece index width count =
    ((width ≡ 256) × ((index + 1) * 256 ≤ count)) ⊎ ((0 < width) × (width < 256) × (count ≡ index * 256 + width))

-- a log of one of the sizes has this piece in its row of this level
abbrev pub HadPiece : ℕ → ℕ → ℕ → List ℕ → Type 0
HadPiece level index width sizes = (level < 8) × Any (λ size. HasPiece index width (level_count size level)) sizes
