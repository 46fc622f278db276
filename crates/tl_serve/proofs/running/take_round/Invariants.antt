use Rattle.std.proofs.Common.{◌-◌}
use Rattle.std.specs.List.{range_with_len}
use Rattle.tl_serve.specs.Inner.Live.{TakesIn}
use Rattle.tl_serve.specs.Inner.Running.{StaysRunning}
use Rattle.tl_serve.proofs.InTurn.{IsOnward}
use Rattle.tl_serve.proofs.running.take_round.Given as goal

-- what holds of it holds, and its lanes stay; and the lanes before this one gave this many entries
abbrev pub invariant-loop-lane : goal.invariant-loop-lane
invariant-loop-lane g l =
    StaysRunning g.O.LiveLog.holds g.O.LiveLog.log g.O.LiveLog.begun l.fn.log l.log
    × IsOnward (λ lane. TakesIn lane l.fn.most) (range_with_len 0 l.fn.lanes) (range_with_len l.lane (l.fn.lanes - l.lane)) (g.O.LiveLog.log l.fn.log) (g.O.LiveLog.log l.log) l.count
