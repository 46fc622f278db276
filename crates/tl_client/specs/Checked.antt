-- Entries that were checked against the size and root of a log (RFC 6962, section 2.1; C2SP tlog-tiles).
use Rattle.std.specs.Prelude.{◌≡◌, ◌⊎◌, ℕ, List, length, map}
use Rattle.tl_hash.specs.Bytes.{Bytes, Digest}
use Rattle.tl_hash.specs.Tree.{leaf_input, tree_hash, inputs}
use Rattle.tl_hash.specs.Collision.{Collides}
use Rattle.tl_tile.specs.Bundle.{AreEntries}
use Rattle.tl_tile.specs.Folds.{Tiles, TilesCollide}
use Rattle.tl_tile.specs.Needed.{bundle_width}
use Rattle.tl_client.specs.Bundles.{bundle_entries}

-- a string hashed for the leaf of one of these entries, and a different one hashed for the tree over the list, have
-- the same digest
abbrev pub LeavesCollide : Digest → List Bytes → List Bytes → Type 0
LeavesCollide H entries all = (x : Bytes) × (y : Bytes) × Collides H x y (map leaf_input entries) (inputs H all)

-- these are the entries of a bundle, checked with these tiles
pub record AreCheckedEntries (H : Digest) (tiles : Tiles) (size : ℕ) (root : Bytes) (bundle : ℕ) (entries : List Bytes) : Type 0 where
  -- there are as many entries as the bundle is wide
  pub whole : AreEntries (bundle_width size bundle) entries
  -- they are those of every list of this size and root; or an input of the list's tree collides with the leaf of one
  -- of them, or with a string that was hashed for these tiles
  pub those : (all : List Bytes) → length all ≡ size → tree_hash H all ≡ root
      → (entries ≡ bundle_entries size bundle all) ⊎ (LeavesCollide H entries all ⊎ TilesCollide H tiles size all)
