-- The numbers of bytes of the entry bundles of a log.
use Rattle.std.specs.Prelude.{◌≡◌, ℕ, ◌*◌, ◌<◌, ◌≤◌, List, length, take, drop, slice_index_or}
use Rattle.tl_hash.specs.Bytes.{Bytes}
use Rattle.tl_tile.specs.Bundle.{bundle_text}
use Rattle.tl_tile.specs.declared.resource.Resource.{Resource}
use Rattle.tl_tile.specs.declared.resource.Resource.TheVariants as resource

-- the lengths of the entry bundles of these entries, from the first: each of 256 entries, the last of those that are
-- left
pub record AreBundleLengths (lengths : List ℕ) (entries : List Bytes) : Type 0 where
  pub all : length entries ≤ length lengths * 256
  pub each : (index d : ℕ) → index < length lengths → slice_index_or lengths index d ≡ length (bundle_text (take 256 (drop (index * 256) entries)))

-- if the resource is a bundle, its length is among these
abbrev pub HasLength : List ℕ → Resource → Type 0
HasLength lengths (resource.Tile t) = Unit {0}
HasLength lengths (resource.Entries index width) = index < length lengths
HasLength lengths resource.Checkpoint = Unit {0}
