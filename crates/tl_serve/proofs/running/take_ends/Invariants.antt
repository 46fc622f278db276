use Rattle.std.proofs.Common.{◌≡◌, All, length}
use Rattle.tl_sequencer.specs.Log.{IsEndOf}
use Rattle.tl_serve.specs.Inner.Live.{TakesRest}
use Rattle.tl_serve.specs.Inner.Running.{StaysRunning}
use Rattle.tl_serve.proofs.InTurn.{IsOnward}
use Rattle.tl_serve.proofs.running.take_ends.Given as goal

-- what holds of it holds, its lanes stay, the ends that are left are its own, and those before them gave this many
-- entries
abbrev pub invariant-loop-ended : goal.invariant-loop-ended
invariant-loop-ended g l =
    StaysRunning g.O.LiveLog.holds g.O.LiveLog.log g.O.LiveLog.begun l.fn.log l.log
    × All (λ e. IsEndOf e (g.O.LiveLog.log l.fn.log)) l.ended-iterator.rest.items
    × (l.ended-iterator.rest.len ≡ length l.ended-iterator.rest.items)
    × IsOnward TakesRest l.fn.ends.items l.ended-iterator.rest.items (g.O.LiveLog.log l.fn.log) (g.O.LiveLog.log l.log) l.count
