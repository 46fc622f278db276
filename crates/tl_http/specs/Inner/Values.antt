-- The steps of copying the value of a field.
use Rattle.std.specs.Prelude.{◌≡◌, ℕ, ◌<◌, Option, Some, Result, Ok, Err, length}
use Rattle.std.specs.declared.vec.Vec.{Vec}
use Rattle.tl_hash.specs.Bytes.{Bytes}
use Rattle.tl_http.specs.Post.{value_bytes}

-- a copy of the value, or of none; or an allocation for some bytes failed
abbrev pub CopiesValue : {A E : Type 0} → Option Bytes → Result (Option (Vec ℕ A)) E → Type 0
CopiesValue value (Ok copy) = value_bytes copy ≡ value
CopiesValue value (Err refused) = (bytes : Bytes) × (value ≡ Some bytes) × (0 < length bytes)
