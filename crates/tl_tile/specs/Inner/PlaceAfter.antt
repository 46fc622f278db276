-- One more full subtree after the entries of a log.
use Rattle.std.specs.Prelude.{◌≡◌, ℕ, ◌^◌, List, length}
use Rattle.tl_hash.specs.Bytes.{Bytes, Digest}
use Rattle.tl_hash.specs.Tree.{tree_hash}
use Rattle.tl_tile.specs.RightEdge.{hashes_below}

-- `size` entries, for which these hashes are kept, and the entries of one subtree of a level of tiles, with their
-- hash
pub record IsPlaceAfter (H : Digest) (size lowest : ℕ) (kept : List Bytes) (root : Bytes) (entries added : List Bytes) : Type 0 where
  pub sized : length entries ≡ size
  pub full : length added ≡ 256 ^ lowest
  pub kept_are : kept ≡ hashes_below H entries 8
  pub root_is : root ≡ tree_hash H added
