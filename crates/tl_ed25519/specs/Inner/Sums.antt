-- Parts of a sum of two points.
use Rattle.std.specs.Prelude.{ℕ, zero, suc}
use Rattle.tl_ed25519.specs.Field.{add, sub, mul, curve_d}
use Rattle.tl_ed25519.specs.Curve.{Point, point_add}

-- the point of a, b, c and half of d (RFC 8032, section 5.1.4)
unfoldable pub from_parts : ℕ → ℕ → ℕ → ℕ → Point
from_parts a b c half =
    let d : ℕ = add half half in
    let e : ℕ = sub b a in
    let f : ℕ = sub d c in
    let g : ℕ = add d c in
    let h : ℕ = add b a in
    record { x = mul e f; y = mul g h; z = mul f g; t = mul e h }

-- a point prepared to be the second one of a sum
pub record Cached : Type 0 where
  pub less : ℕ
  pub more : ℕ
  pub z : ℕ
  pub t : ℕ

unfoldable pub cached_of : Point → Cached
cached_of p = record { less = sub p.y p.x; more = add p.y p.x; z = p.z; t = mul p.t (mul 2 curve_d) }

-- 2^i * p, by doubling p i times
unfoldable pub doubled : ℕ → Point → Point
doubled zero p = p
doubled (suc i) p = doubled i (point_add p p)
