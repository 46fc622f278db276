-- The laws as definitions, for proofs.
use Rattle.std.specs.Prelude.{◌≡◌, ℕ, ◌+◌, ◌*◌, ◌%◌, ◌^◌, ◌<◌, ◌≤◌, List, length, Some, ◌⊎◌}
use Rattle.tl_hash.specs.Bytes.{Bytes, Digest}
use Rattle.tl_hash.specs.Tree.{tree_hash}
use Rattle.tl_store.specs.Stored.{stored_index, stored_hash}
use Rattle.tl_tile.specs.TileText.{level_count, full_tile, tile_with}
use Rattle.tl_tile.specs.Folds.{Tiles, IsHashAt, IsEdgeRoot, IsTileHash, AreChecked, IsSubtreeHash, TilesCollide}
use Rattle.tl_tile.specs.TileLaws.{AreHonest}

-- in checked tiles, the hash that those of a subtree fold to is its stored hash, for each list of this size and root;
-- or an input of that list and a string hashed for the tiles collide
abbrev pub CheckedTilesHaveStoredHashes : Type 0
CheckedTilesHaveStoredHashes =
    (H : Digest) → ((message : Bytes) → length (H message) ≡ 32)
    → (tiles : Tiles) (size : ℕ) (root : Bytes) → AreChecked H tiles size root
    → (level place : ℕ) (hash : Bytes) → (place + 1) * 2 ^ level ≤ size → IsSubtreeHash H tiles size level place hash
    → (entries : List Bytes) → length entries ≡ size → tree_hash H entries ≡ root
    → (hash ≡ stored_hash H entries (stored_index level place)) ⊎ TilesCollide H tiles size entries

-- honest partial tiles fold to the root of the entries
abbrev pub HonestTilesFoldToRoot : Type 0
HonestTilesFoldToRoot =
    (H : Digest) → ((message : Bytes) → length (H message) ≡ 32)
    → (tiles : Tiles) (entries : List Bytes) → AreHonest H tiles entries
    → (root : Bytes) (strings : List Bytes) → IsEdgeRoot H tiles (length entries) root strings
    → root ≡ tree_hash H entries

-- an honest full tile folds to the hash that the honest tile above has for it
abbrev pub HonestTilesFoldToAbove : Type 0
HonestTilesFoldToAbove =
    (H : Digest) → ((message : Bytes) → length (H message) ≡ 32)
    → (tiles : Tiles) (entries : List Bytes) → AreHonest H tiles entries
    → (level index : ℕ) (text hash : Bytes) (strings : List Bytes) → index < level_count (length entries) (level + 1)
    → tiles (full_tile level index) ≡ Some text → IsTileHash H text hash strings
    → (above own : Bytes) → tiles (tile_with (length entries) (level + 1) index) ≡ Some above → IsHashAt above (index % 256) own
    → hash ≡ own

-- partial tiles fold to at most one root, and a full tile to at most one hash
abbrev pub FoldedHashesAreOne : Type 0
FoldedHashesAreOne =
    (H : Digest) (tiles : Tiles) (size : ℕ) (text hash other : Bytes) (strings others : List Bytes)
    → (IsEdgeRoot H tiles size hash strings → IsEdgeRoot H tiles size other others → hash ≡ other)
    × (IsTileHash H text hash strings → IsTileHash H text other others → hash ≡ other)

-- in honest tiles, the hash that those of a subtree fold to is its stored hash
abbrev pub HonestTilesHaveStoredHashes : Type 0
HonestTilesHaveStoredHashes =
    (H : Digest) → ((message : Bytes) → length (H message) ≡ 32)
    → (tiles : Tiles) (entries : List Bytes) → AreHonest H tiles entries
    → (level place : ℕ) (hash : Bytes) → (place + 1) * 2 ^ level ≤ length entries → IsSubtreeHash H tiles (length entries) level place hash
    → hash ≡ stored_hash H entries (stored_index level place)
