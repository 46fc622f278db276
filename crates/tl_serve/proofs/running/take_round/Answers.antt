use Rattle.std.proofs.Common.{◌-◌, ◌+◌, ◌∙◌, arith}
use Rattle.std.proofs.lemmas.Grind.{common_steps}
use Rattle.std.specs.List.{range_with_len}
use Rattle.tl_serve.specs.Inner.Live.{TakesIn}
use Rattle.tl_serve.proofs.InTurn.{lanes_end, lanes_next, onward_ends, onward_fails, onward_next}
use Rattle.tl_serve.proofs.running.take_round.Goals as goal

pub loop-lane-preserved : goal.loop-lane-preserved
loop-lane-preserved g c = (
  record {
    holds = c.take_in.ensures.kept.holds;
    rings = c.take_in.ensures.kept.rings ∙ c.loop-lane.invariant.0.rings;
    begun = c.take_in.ensures.kept.begun ∙ c.loop-lane.invariant.0.begun;
  },
  onward_next (λ lane. TakesIn lane c.args.most) (range_with_len 0 c.args.lanes) (range_with_len c.loop-lane.lane (c.args.lanes - c.loop-lane.lane))
      (range_with_len (c.loop-lane.lane + 1) (c.args.lanes - (c.loop-lane.lane + 1))) c.loop-lane.lane
      (g.O.LiveLog.log c.args.log.now) (g.O.LiveLog.log c.loop-lane.log) (g.O.LiveLog.log c.take_in.new.self) c.loop-lane.count c.in-Ok.taken c.saturating_add-count.result
      c.loop-lane.invariant.1 (lanes_next c.loop-lane.lane c.args.lanes c.loop-lane-test.true) c.in-Ok.ensures.taken c.saturating_add-count.ensures,
)

pub returns-in-Err-clause-taken : goal.returns-in-Err-clause-taken
returns-in-Err-clause-taken g c =
    onward_fails (λ lane. TakesIn lane c.args.most) (range_with_len 0 c.args.lanes) (range_with_len c.loop-lane.lane (c.args.lanes - c.loop-lane.lane))
    (range_with_len (c.loop-lane.lane + 1) (c.args.lanes - (c.loop-lane.lane + 1))) c.loop-lane.lane
    (g.O.LiveLog.log c.args.log.now) (g.O.LiveLog.log c.loop-lane.log) (g.O.LiveLog.log c.take_in.new.self) c.loop-lane.count c.in-Err.fault
    c.loop-lane.invariant.1 (lanes_next c.loop-lane.lane c.args.lanes c.loop-lane-test.true) c.in-Err.ensures.taken

pub returns-clause-taken : goal.returns-clause-taken
returns-clause-taken g c =
    onward_ends (λ lane. TakesIn lane c.args.most) (range_with_len 0 c.args.lanes) (range_with_len c.loop-lane.lane (c.args.lanes - c.loop-lane.lane))
    (g.O.LiveLog.log c.args.log.now) (g.O.LiveLog.log c.loop-lane.log) c.loop-lane.count c.loop-lane.invariant.1
    (lanes_end c.loop-lane.lane c.args.lanes c.loop-lane-test.false)

pub returns-in-Err-clause-kept : goal.returns-in-Err-clause-kept
returns-in-Err-clause-kept g c = grind (arith, common_steps)
