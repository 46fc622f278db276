use Rattle.std.proofs.Common.{ℕ, ◌<◌, get_or}
use Rattle.std.specs.Prelude.{IsSome}
use Rattle.tl_sequencer.specs.Log.{Lane}
use Rattle.tl_sequencer.proofs.lane.first_open.Given as goal

abbrev pub invariant-loop-lane : goal.invariant-loop-lane
invariant-loop-lane g l = (k : ℕ) (d : Lane _) → k < l.lane → IsSome (get_or l.lanes k d).sent
