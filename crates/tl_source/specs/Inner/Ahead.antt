-- What was got ahead.
use Rattle.std.specs.Prelude.{◌≡◌, Option, Some, None, vec_items}
use Rattle.tl_hash.specs.Bytes.{Bytes}
use Rattle.tl_tile.specs.declared.resource.Resource.{Resource}
use Rattle.tl_source.specs.declared.ahead.Got.{Got}

-- these are the bytes that came for this resource
abbrev pub IsGot : Option Got → Resource → Bytes → Type 0
IsGot None r bytes = ⊥
IsGot (Some got) r bytes = (got.resource ≡ r) × (vec_items got.bytes ≡ bytes)
