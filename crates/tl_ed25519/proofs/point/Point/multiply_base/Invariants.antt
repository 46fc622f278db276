use Rattle.std.proofs.Common.{◌≡◌, ◌-◌}
use Rattle.tl_ed25519.specs.Curve.{base_point, multiply, multiply_from}
use Rattle.tl_ed25519.specs.Inner.Sums.{doubled}
use Rattle.tl_ed25519.proofs.point.Point.multiply_base.Given as goal

abbrev pub invariant-bits : goal.invariant-bits
invariant-bits l = multiply_from (256 - l.i) l.rest l.sum (doubled l.i base_point) ≡ multiply l.fn.scalar base_point
