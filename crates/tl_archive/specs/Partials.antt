-- Full tiles and bundles, and partial ones (C2SP tlog-tiles, "Partial Tiles").
use Rattle.std.specs.Prelude.{◌≡◌, ℕ, ◌^◌, ◌<◌}
use Rattle.tl_tile.specs.declared.resource.Resource.{Resource}
use Rattle.tl_tile.specs.declared.resource.Resource.TheVariants as resource
use Rattle.tl_tile.specs.Path.{IsTile}

-- a tile of 256 hashes, or a bundle of 256 entries
abbrev pub IsFull : Resource → Type 0
IsFull (resource.Tile t) = IsTile t × (t.width ≡ 256)
IsFull (resource.Entries index width) = (index < 2 ^ 56) × (width ≡ 256)
IsFull resource.Checkpoint = ⊥

-- the second resource is a partial one of the first: the same tile or bundle with fewer hashes or entries
abbrev pub IsPartialOf : Resource → Resource → Type 0
IsPartialOf (resource.Tile full) (resource.Tile t) = (t.level ≡ full.level) × (t.index ≡ full.index) × (t.width < 256)
IsPartialOf (resource.Tile full) (resource.Entries index width) = ⊥
IsPartialOf (resource.Tile full) resource.Checkpoint = ⊥
IsPartialOf (resource.Entries own full) (resource.Tile t) = ⊥
IsPartialOf (resource.Entries own full) (resource.Entries index width) = (index ≡ own) × (width < 256)
IsPartialOf (resource.Entries own full) resource.Checkpoint = ⊥
IsPartialOf resource.Checkpoint r = ⊥
