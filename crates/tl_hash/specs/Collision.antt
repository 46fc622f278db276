-- Two byte strings with one digest.
use Rattle.std.specs.Prelude.{◌≡◌, ◌≢◌, List, Contains}
use Rattle.tl_hash.specs.Bytes.{Bytes, Digest}

-- x and y are different byte strings with one digest; x is one of the first strings and y one of the second
pub record Collides (H : Digest) (x y : Bytes) (firsts seconds : List Bytes) : Type 0 where
  pub first : Contains firsts x
  pub second : Contains seconds y
  pub differ : x ≢ y
  pub same_digest : H x ≡ H y
