-- Resources that a host is asked for before they are needed.
use Rattle.std.specs.Prelude.{Option, Some, None, vec_items}
use Rattle.tl_hash.specs.Bytes.{Bytes}
use Rattle.tl_tile.specs.declared.resource.Resource.{Resource}
use Rattle.tl_source.specs.Asking.{MayGive}
use Rattle.tl_source.specs.declared.ahead.Got.{Got}
use Rattle.tl_source.specs.declared.host.LogHost.{LogHost}

-- the bytes that a request to this host may give for a resource are among those that may be answered for it
abbrev pub IsHostOf : LogHost → (Resource → Bytes → Type 0) → Type 0
IsHostOf host answers =
    (r : Resource) (text : Bytes) → MayGive host.url.authority.now host.url.prefix.now r text → answers r text

-- no answer, or bytes that may be answered for their resource
abbrev pub IsAnswer : (Resource → Bytes → Type 0) → Option Got → Type 0
IsAnswer answers None = Unit {0}
IsAnswer answers (Some got) = answers got.resource (vec_items got.bytes)
