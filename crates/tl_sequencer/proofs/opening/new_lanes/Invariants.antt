use Rattle.tl_sequencer.specs.Inner.Lanes.{AreLanes}
use Rattle.tl_sequencer.proofs.opening.new_lanes.Given as goal

abbrev pub invariant-loop-lane : goal.invariant-loop-lane
invariant-loop-lane g l = AreLanes l.lane l.capacity l.limit l.lanes.items l.submitters.items
