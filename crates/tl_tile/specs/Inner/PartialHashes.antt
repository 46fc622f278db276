-- The hashes of a level's partial tile.
use Rattle.std.specs.Prelude.{ℕ, ◌*◌, ◌/◌, ◌%◌, List, length, map}
use Rattle.std.specs.List.{range_with_len}
use Rattle.tl_hash.specs.Bytes.{Bytes, Digest}
use Rattle.tl_hash.specs.Tree.{tree_hash}
use Rattle.tl_tile.specs.TileText.{level_count, entries_under}

-- the hash of a level at a place
abbrev pub hash_at : Digest → List Bytes → ℕ → ℕ → Bytes
hash_at H entries level place = tree_hash H (entries_under level place entries)

-- the hashes of a level's partial tile
abbrev pub partial_hashes : Digest → List Bytes → ℕ → List Bytes
partial_hashes H entries level =
    let count : ℕ = level_count (length entries) level in
    map (hash_at H entries level) (range_with_len (count / 256 * 256) (count % 256))
