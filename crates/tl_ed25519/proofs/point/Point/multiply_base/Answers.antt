use Rattle.tl_ed25519.proofs.Points.{base_begun, base_step, multiply_done}
use Rattle.tl_ed25519.specs.Curve.{base_point, multiply}
use Rattle.tl_ed25519.specs.Inner.Sums.{doubled}
use Rattle.tl_ed25519.proofs.point.Point.multiply_base.Goals as goal

pub bits-init : goal.bits-init
bits-init c = base_begun c.args.scalar c.neutral-sum.result base_point c.neutral-sum.ensures

pub bits-preserved : goal.bits-preserved
bits-preserved c =
    base_step c.bits.i c.bits.rest c.half-rest.result c.low_bit.result c.bits.sum c.add_cached-added.result
    c.choose-sum.result (multiply c.args.scalar base_point) base_point c.bits-test.true c.low_bit.ensures.value
    c.half-rest.ensures (c.add_cached-added.ensures (doubled c.bits.i base_point) c.doubled_base-power.ensures) c.choose-sum.ensures c.bits.invariant

pub returns : goal.returns
returns c = multiply_done c.bits.i c.bits.rest c.bits.sum (doubled c.bits.i base_point) (multiply c.args.scalar base_point) c.bits-test.false c.bits.invariant
