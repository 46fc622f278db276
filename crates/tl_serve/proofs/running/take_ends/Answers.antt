use Rattle.std.proofs.Common.{All, subst, ap, length, arith, ◌∙◌}
use Rattle.std.proofs.lemmas.Grind.{common_steps}
use Rattle.std.proofs.lemmas.List.Elements.{All-head, All-tail}
use Rattle.tl_sequencer.specs.Log.{IsEndOf}
use Rattle.tl_serve.specs.Inner.Live.{TakesRest}
use Rattle.tl_serve.proofs.Ends.{end_stays}
use Rattle.tl_serve.proofs.InTurn.{none_left, onward_ends, onward_fails, onward_next}
use Rattle.tl_serve.proofs.running.take_ends.Goals as goal

pub end_lane-requires-clause-end : goal.end_lane-requires-clause-end
end_lane-requires-clause-end g c =
    let left = subst (All (λ e. IsEndOf e (g.O.LiveLog.log c.args.log.now))) c.in-Some.ensures.steps.0 c.loop-ended.invariant.1 in
    end_stays c.in-Some.ended (g.O.LiveLog.log c.args.log.now) (g.O.LiveLog.log c.loop-ended.log) c.loop-ended.invariant.0.rings
    (All-head (λ e. IsEndOf e (g.O.LiveLog.log c.args.log.now)) c.in-Some.ended c.next.new.self.rest.items left)

pub loop-ended-preserved : goal.loop-ended-preserved
loop-ended-preserved g c =
    let step = ap length c.in-Some.ensures.steps.0 in
    let left = subst (All (λ e. IsEndOf e (g.O.LiveLog.log c.args.log.now))) c.in-Some.ensures.steps.0 c.loop-ended.invariant.1 in (
      record {
        holds = c.end_lane.ensures.kept.holds;
        rings = c.end_lane.ensures.kept.rings ∙ c.loop-ended.invariant.0.rings;
        begun = c.end_lane.ensures.kept.begun ∙ c.loop-ended.invariant.0.begun;
      },
      All-tail (λ e. IsEndOf e (g.O.LiveLog.log c.args.log.now)) c.in-Some.ended c.next.new.self.rest.items left,
      omega (arith, step, c.in-Some.ensures.steps.1, c.loop-ended.invariant.2),
      onward_next TakesRest c.args.ends.items c.loop-ended.ended-iterator.rest.items c.next.new.self.rest.items c.in-Some.ended
          (g.O.LiveLog.log c.args.log.now) (g.O.LiveLog.log c.loop-ended.log) (g.O.LiveLog.log c.end_lane.new.self) c.loop-ended.count c.in-Ok.left c.saturating_add-count.result
          c.loop-ended.invariant.3 c.in-Some.ensures.steps.0 c.in-Ok.ensures.taken c.saturating_add-count.ensures,
    )

pub returns-in-Err-clause-taken : goal.returns-in-Err-clause-taken
returns-in-Err-clause-taken g c =
    onward_fails TakesRest c.args.ends.items c.loop-ended.ended-iterator.rest.items c.next.new.self.rest.items c.in-Some.ended
    (g.O.LiveLog.log c.args.log.now) (g.O.LiveLog.log c.loop-ended.log) (g.O.LiveLog.log c.end_lane.new.self) c.loop-ended.count c.in-Err.fault
    c.loop-ended.invariant.3 c.in-Some.ensures.steps.0 c.in-Err.ensures.taken

pub returns-clause-taken : goal.returns-clause-taken
returns-clause-taken g c =
    onward_ends TakesRest c.args.ends.items c.loop-ended.ended-iterator.rest.items
    (g.O.LiveLog.log c.args.log.now) (g.O.LiveLog.log c.loop-ended.log) c.loop-ended.count c.loop-ended.invariant.3
    (none_left c.loop-ended.ended-iterator.rest.items c.loop-ended.ended-iterator.rest.len c.loop-ended.invariant.2 c.in-None.ensures.steps.0)

pub loop-ended-preserved-derived : goal.loop-ended-preserved-derived
loop-ended-preserved-derived g c = grind (arith, common_steps)

pub returns-clause-kept : goal.returns-clause-kept
returns-clause-kept g c = grind (arith, common_steps)

pub returns-in-Err-clause-kept : goal.returns-in-Err-clause-kept
returns-in-Err-clause-kept g c = grind (arith, common_steps)
