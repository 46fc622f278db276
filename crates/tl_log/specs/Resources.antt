-- Which tiles and bundles a log of a size needs (C2SP tlog-tiles, "Partial Tiles").
use Rattle.std.specs.Prelude.{ℕ, Bool, true, false, ◌==◌, ◌&&◌, List}
use Rattle.std.specs.List.{list_any}
use Rattle.tl_tile.specs.declared.resource.Resource.{Resource}
use Rattle.tl_tile.specs.declared.resource.Resource.TheVariants as resource
use Rattle.tl_tile.specs.Needed.{needed_resources}
use Rattle.tl_tile.specs.Fetched.{same_tile}

-- whether two resources are one
abbrev pub same_resource : Resource → Resource → Bool
same_resource (resource.Tile s) (resource.Tile t) = same_tile s t
same_resource (resource.Tile s) (resource.Entries j v) = false
same_resource (resource.Tile s) resource.Checkpoint = false
same_resource (resource.Entries i w) (resource.Tile t) = false
same_resource (resource.Entries i w) (resource.Entries j v) = i == j && w == v
same_resource (resource.Entries i w) resource.Checkpoint = false
same_resource resource.Checkpoint (resource.Tile t) = false
same_resource resource.Checkpoint (resource.Entries j v) = false
same_resource resource.Checkpoint resource.Checkpoint = true

-- whether a log of this size needs the resource
abbrev pub needs : Resource → ℕ → Bool
needs r size = list_any (same_resource r) (needed_resources size)

-- whether a log of one of these sizes does
abbrev pub was_needed : Resource → List ℕ → Bool
was_needed r sizes = list_any (needs r) sizes
