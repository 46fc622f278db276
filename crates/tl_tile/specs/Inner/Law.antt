-- The laws as definitions, for proofs.
use Rattle.std.specs.Prelude.{◌≡◌, ℕ, ◌+◌, ◌≤◌, List, Contains, ◌↔◌}
use Rattle.tl_hash.specs.Bytes.{Bytes}
use Rattle.tl_tile.specs.declared.resource.Tile.{Tile}
use Rattle.tl_tile.specs.declared.resource.Resource.{Resource}
use Rattle.tl_tile.specs.Needed.{needed_resources}
use Rattle.tl_tile.specs.RightEdge.{filled_tiles}
use Rattle.tl_tile.specs.Bundle.{AreEntries, bundle_text, IsTruncated, HasTrailing}
use Rattle.tl_tile.specs.declared.resource.Resource.TheVariants as resource
use Rattle.tl_tile.specs.Law.{BundleIsOne, IsNewSince}

abbrev pub BundlesAreOne : Type 0
BundlesAreOne = (bytes : Bytes) (width : ℕ) (entries : List Bytes) → AreEntries width entries → bytes ≡ bundle_text entries → BundleIsOne bytes width entries

-- no bytes both end within a bundle and go on after one
abbrev pub BundleFaultsApart : Type 0
BundleFaultsApart = (bytes : Bytes) (width : ℕ) → IsTruncated bytes width → HasTrailing bytes width → ⊥

-- the full tiles that an entry completes are those that are needed with it and weren't needed before it
abbrev pub FilledTilesAreNew : Type 0
FilledTilesAreNew =
    (n : ℕ) (t : Tile)
    → Contains (filled_tiles (n + 1)) t
    ↔ ((t.width ≡ 256) × Contains (needed_resources (n + 1)) (resource.Tile t) × (Contains (needed_resources n) (resource.Tile t) → ⊥))

abbrev pub NeededSinceIsNew : Type 0
NeededSinceIsNew = (from size : ℕ) → from ≤ size → (r : Resource) → IsNewSince from size r
