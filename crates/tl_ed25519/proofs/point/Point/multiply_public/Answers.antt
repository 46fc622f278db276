use Rattle.tl_ed25519.proofs.Points.{multiply_begun, multiply_step, multiply_done, ended}
use Rattle.std.proofs.Common.{refl, sym, ◌∙◌}
use Rattle.std.proofs.lemmas.Bool.{eqb-true}
use Rattle.tl_ed25519.specs.Curve.{multiply, point_add}
use Rattle.tl_ed25519.proofs.point.Point.multiply_public.Goals as goal

pub places-init : goal.places-init
places-init c = multiply_begun c.args.scalar c.neutral-sum.result c.args.self c.neutral-sum.ensures

pub places-preserved : goal.places-preserved
places-preserved c =
    multiply_step c.places.i c.places.rest c.half-rest.result c.low_bit.result c.places.sum c.places.power (point_add c.places.sum c.places.power)
    c.add_if-sum.result c.double-power.result (multiply c.args.scalar c.args.self) c.places-test.true c.low_bit.ensures.value
    c.half-rest.ensures refl c.add_if-sum.ensures c.double-power.ensures c.places.invariant

pub returns : goal.returns
returns c = multiply_done c.places.i c.places.rest c.places.sum c.places.power (multiply c.args.scalar c.args.self) c.places-test.false c.places.invariant

pub returns-then-is_zero : goal.returns-then-is_zero
returns-then-is_zero c =
    ended c.places.i c.places.rest c.places.sum c.places.power (multiply c.args.scalar c.args.self)
    (eqb-true c.places.rest 0 (sym c.is_zero.ensures ∙ c.if-is_zero.true)) c.places.invariant
