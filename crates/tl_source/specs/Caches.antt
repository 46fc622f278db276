-- Caches of tiles.
use Rattle.std.specs.Prelude.{◌⊎◌}
use Rattle.tl_hash.specs.Bytes.{Bytes}
use Rattle.tl_tile.specs.declared.resource.Resource.{Resource}
use Rattle.tl_tile.specs.declared.resource.Resource.TheVariants as resource

-- what a source with a cache of tiles before it may answer: for a tile what either may, else what the source may
abbrev pub may_answer_either : (Resource → Bytes → Type 0) → (Resource → Bytes → Type 0) → Resource → Bytes → Type 0
may_answer_either cache source (resource.Tile t) text = cache (resource.Tile t) text ⊎ source (resource.Tile t) text
may_answer_either cache source (resource.Entries index width) text = source (resource.Entries index width) text
may_answer_either cache source resource.Checkpoint text = source resource.Checkpoint text

-- what a source with a cache of tiles before it may lack: a tile that both may lack, else what the source may lack
abbrev pub may_lack_both : (Resource → Type 0) → (Resource → Type 0) → Resource → Type 0
may_lack_both cache source (resource.Tile t) = cache (resource.Tile t) × source (resource.Tile t)
may_lack_both cache source (resource.Entries index width) = source (resource.Entries index width)
may_lack_both cache source resource.Checkpoint = source resource.Checkpoint
