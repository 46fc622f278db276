-- When a log has all entries that a tile or bundle is over (C2SP tlog-tiles, "Partial Tiles").
use Rattle.std.specs.Prelude.{ℕ, ◌+◌, ◌*◌, ◌^◌, ◌≤◌, ⊤}
use Rattle.tl_tile.specs.declared.resource.Resource.{Resource}
use Rattle.tl_tile.specs.declared.resource.Resource.TheVariants as resource

-- all entries that the resource is over are among the first `size`
abbrev pub LiesWithin : ℕ → Resource → Type 0
LiesWithin size (resource.Tile t) = (t.index * 256 + t.width) * 256 ^ t.level ≤ size
LiesWithin size (resource.Entries index width) = index * 256 + width ≤ size
LiesWithin size resource.Checkpoint = ⊤
