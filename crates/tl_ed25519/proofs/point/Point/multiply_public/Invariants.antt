use Rattle.std.proofs.Common.{◌≡◌, ◌-◌}
use Rattle.tl_ed25519.specs.Curve.{multiply, multiply_from}
use Rattle.tl_ed25519.proofs.point.Point.multiply_public.Given as goal

abbrev pub invariant-places : goal.invariant-places
invariant-places l = multiply_from (256 - l.i) l.rest l.sum l.power ≡ multiply l.fn.scalar l.fn.self
