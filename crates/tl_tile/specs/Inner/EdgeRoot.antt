-- Folding the tiles of the right edge to the root of a size, level by level.
use Rattle.std.specs.Prelude.{◌≡◌, ℕ, ◌+◌, ◌*◌, ◌%◌, ◌^◌, ◌<◌, List, ◌++◌, length, Option, Some, None}
use Rattle.tl_hash.specs.Bytes.{Bytes, Digest}
use Rattle.tl_tile.specs.TileText.{level_count}
use Rattle.tl_tile.specs.Folds.{Tiles, IsFold, IsEdgeHash, IsPartHash}

-- a hash that some of a tile's hashes fold to
abbrev pub Part : Digest → Bytes → ℕ → ℕ → Bytes → Type 0
Part H text start count hash = (strings : List Bytes) × IsPartHash H text start count hash strings

-- the hash over a tile's hashes and a last hash after them, if there is one
abbrev pub Joined : Digest → Bytes → ℕ → Option Bytes → Bytes → Type 0
Joined H text width None hash = Part H text 0 width hash
Joined H text width (Some last) hash = (length last ≡ 32) × Part H (text ++ last) 0 (width + 1) hash

-- the hash that the partial tiles of the levels below this one fold to: that of the entries after this level's last
-- hash, if there are any
abbrev pub IsRestHash : Digest → Tiles → ℕ → ℕ → Option Bytes → Type 0
IsRestHash H tiles size level None = size % 256 ^ level ≡ 0
IsRestHash H tiles size level (Some hash) =
    (0 < size % 256 ^ level)
    × (strings : List Bytes)
    × IsFold H (IsEdgeHash tiles size) (level_count size level * 256 ^ level) (size % 256 ^ level) hash strings
