use Rattle.std.proofs.Common.{◌≡◌, ◌+◌, ◌*◌, ◌%◌, ◌∙◌, ap, arith}
use Rattle.tl_lanes.specs.Inner.Columns.{column}
use Rattle.tl_lanes.specs.Lanes.{lane}
use Rattle.tl_lanes.proofs.LaneLemmas.{column_set}
use Rattle.tl_lanes.proofs.Ring.{as_many, late_round, ring_place}
use Rattle.tl_lanes.proofs.quad.late_round.Goals as goal

pub returns : goal.returns
returns c = λ j lt b h held.
    let t = 16 * c.args.turn + c.args.place in
    let own_place : t % 16 ≡ c.args.place = omega arith in
    let made = c.extend-word.ensures in
    let old = column j c.args.ring.now in
    as_many b h _ _ (t + 1) _ (omega arith)
    (late_round b h old _ (lane j c.args.vars) _ t _ (omega arith) (omega arith) held
    (made.value j lt ∙ ring_place old c.args.turn c.args.place)
    (rw own_place (ap (column j) made.ring ∙ column_set c.args.ring.now c.args.place j c.extend-word.result))
    (c.after_round.ensures j lt))
