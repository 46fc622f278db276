-- The entries after the last hash of a level.
use Rattle.std.specs.Prelude.{◌≡◌, ℕ, ◌*◌, ◌%◌, ◌^◌, ◌<◌, List, length, Option, Some, None}
use Rattle.tl_hash.specs.Bytes.{Bytes, Digest}
use Rattle.tl_hash.specs.Tree.{tree_hash}
use Rattle.tl_tile.specs.TileText.{level_count}
use Rattle.tl_tile.specs.Inner.Run.{part}

-- the hash of the entries after the last hash of a level, if there are any
abbrev pub IsRest : Digest → List Bytes → ℕ → Option Bytes → Type 0
IsRest H entries level None = length entries % 256 ^ level ≡ 0
IsRest H entries level (Some hash) =
    (0 < length entries % 256 ^ level)
    × (hash ≡ tree_hash H (part (level_count (length entries) level * 256 ^ level) (length entries) entries))
