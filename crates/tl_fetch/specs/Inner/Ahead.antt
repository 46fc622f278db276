-- What is asked for of a log before its turn.
use Rattle.std.specs.Prelude.{◌≡◌, ℕ, ◌*◌, ◌<◌}
use Rattle.tl_tile.specs.Needed.{bundle_width}
use Rattle.tl_tile.specs.declared.resource.Resource.{Resource}
use Rattle.tl_tile.specs.declared.resource.Resource.TheVariants as resource

-- a log of this size has the bundle with this index, and it has this width
pub record IsOfBundle (size index width : ℕ) : Type 0 where
  pub within : 256 * index < size
  pub wide : width ≡ bundle_width size index

-- a bundle of a log of this size, or the tile of level 0 over one
abbrev pub IsOfLog : ℕ → Resource → Type 0
IsOfLog size (resource.Tile t) = (t.level ≡ 0) × IsOfBundle size t.index t.width
IsOfLog size (resource.Entries index width) = IsOfBundle size index width
IsOfLog size resource.Checkpoint = ⊥
