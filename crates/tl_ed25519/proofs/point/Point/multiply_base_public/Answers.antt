use Rattle.std.proofs.Common.{refl}
use Rattle.tl_ed25519.proofs.Points.{base_begun, base_step, multiply_done}
use Rattle.tl_ed25519.specs.Curve.{base_point, multiply, point_add}
use Rattle.tl_ed25519.specs.Inner.Sums.{doubled}
use Rattle.tl_ed25519.proofs.point.Point.multiply_base_public.Goals as goal

pub powers-init : goal.powers-init
powers-init c = base_begun c.args.scalar c.neutral-sum.result base_point c.neutral-sum.ensures

pub powers-preserved : goal.powers-preserved
powers-preserved c =
    base_step c.powers.i c.powers.rest c.half-rest.result c.low_bit.result c.powers.sum (point_add c.powers.sum (doubled c.powers.i base_point))
    c.add_base_if-sum.result (multiply c.args.scalar base_point) base_point c.powers-test.true c.low_bit.ensures.value
    c.half-rest.ensures refl c.add_base_if-sum.ensures c.powers.invariant

pub returns : goal.returns
returns c = multiply_done c.powers.i c.powers.rest c.powers.sum (doubled c.powers.i base_point) (multiply c.args.scalar base_point) c.powers-test.false c.powers.invariant
