use Rattle.tl_serve.specs.Inner.Running.{StaysRunning}
use Rattle.tl_serve.proofs.Driven.{HasDriven}
use Rattle.tl_serve.proofs.running.Running.drive.Given as goal

-- what holds of it holds, and its lanes stay; and a step was carried out in each turn
abbrev pub invariant-loop : goal.invariant-loop
invariant-loop g l =
    StaysRunning g.O.LiveLog.holds g.O.LiveLog.log g.O.LiveLog.begun l.fn.self.log l.self.log
    × HasDriven g.O.LiveLog.log g.O.LiveLog.shows g.O.LiveLog.heads g.F.Feed.gives g.L.Write.contents l.fn.publish_loop
    (record { running = l.fn.self; feed = l.fn.feed; out = l.fn.out }) (record { running = l.self; feed = l.feed; out = l.out }) l.publish_loop l.counter
