use Rattle.std.proofs.Common.{ℕ, ◌≡◌, arith, subst}
use Rattle.std.proofs.lemmas.Grind.{common_steps}
use Rattle.tl_sequencer.specs.Inner.Lanes.{AreLanes}
use Rattle.tl_sequencer.proofs.Openings.{AreLanes-more}
use Rattle.tl_sequencer.proofs.opening.new_lanes.Goals as goal

pub loop-lane-preserved : goal.loop-lane-preserved
loop-lane-preserved g c = rw (c.in_ok-push.ensures.items, c.in_ok-push-2.ensures.items) (AreLanes-more _ _ _ _ _ _ _ c.loop-lane.invariant c.in_ok-ours.ensures)

pub returns : goal.returns
returns g c =
    let all : c.loop-lane.lane ≡ c.args.count = omega arith in
    subst (λ (n : ℕ). AreLanes n c.args.capacity c.args.limit c.loop-lane.lanes.items c.loop-lane.submitters.items) all c.loop-lane.invariant

pub loop-lane-init : goal.loop-lane-init
loop-lane-init g c = grind (arith, common_steps)
