use Rattle.std.proofs.Common.{arith}
use Rattle.std.proofs.lemmas.Grind.{common_steps}
use Rattle.tl_sequencer.proofs.Logs.{first-open}
use Rattle.tl_sequencer.proofs.lane.first_open.Goals as goal

pub returns-then-not-has_ended : goal.returns-then-not-has_ended
returns-then-not-has_ended g c =
    first-open c.args.lanes.now c.loop-lane.lane c.index-lanes-lane.result (omega arith) c.index-lanes-lane.is (λ e. let h = c.if-not-has_ended.ensures.1 e in cc) c.loop-lane.invariant

pub loop-lane-preserved : goal.loop-lane-preserved
loop-lane-preserved g c = grind (arith, common_steps)
