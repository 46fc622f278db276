-- Laws over the definitions.
use Rattle.std.specs.Prelude.{◌≡◌, ℕ, ◌⊎◌, List, Contains}
use Rattle.tl_hash.specs.Bytes.{Bytes}
use Rattle.tl_tile.specs.declared.resource.Resource.{Resource}
use Rattle.tl_tile.specs.Needed.{needed_resources, needed_resources_since}
use Rattle.tl_tile.specs.Bundle.{AreEntries, bundle_text, IsTruncated, HasTrailing}

-- the bytes are a bundle of this width in one way only, and then neither end within it nor go on after it
pub record BundleIsOne (bytes : Bytes) (width : ℕ) (entries : List Bytes) : Type 0 where
  pub alone : (others : List Bytes) → AreEntries width others → bytes ≡ bundle_text others → others ≡ entries
  pub whole : IsTruncated bytes width → ⊥
  pub ended : HasTrailing bytes width → ⊥

-- what a log serves since it had `from` entries: together with what it served then it is all that it serves, and none
-- of it was served then
pub record IsNewSince (from size : ℕ) (r : Resource) : Type 0 where
  pub enough : Contains (needed_resources size) r → Contains (needed_resources_since from size) r ⊎ Contains (needed_resources from) r
  pub needed : Contains (needed_resources_since from size) r → Contains (needed_resources size) r
  pub new : Contains (needed_resources_since from size) r → Contains (needed_resources from) r → ⊥
