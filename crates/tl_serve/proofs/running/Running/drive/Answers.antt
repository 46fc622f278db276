use Rattle.std.proofs.Common.{◌∙◌, arith}
use Rattle.std.proofs.lemmas.Grind.{common_steps}
use Rattle.tl_serve.proofs.Driven.{driven_ends, driven_long, driven_next}
use Rattle.tl_serve.proofs.running.Running.drive.Goals as goal

pub returns-after-loop-clause-driven : goal.returns-after-loop-clause-driven
returns-after-loop-clause-driven g c =
    driven_long g.O.LiveLog.log g.O.LiveLog.shows g.O.LiveLog.heads g.F.Feed.gives g.L.Write.contents c.args.publish_loop c.loop.publish_loop
    (record { running = c.args.self.now; feed = c.args.feed.now; out = c.args.out.now }) (record { running = c.loop.self; feed = c.loop.feed; out = c.loop.out })
    c.loop.counter c.loop.invariant.1 c.loop-test.false

pub returns-in_default-clause-driven : goal.returns-in_default-clause-driven
returns-in_default-clause-driven g c =
    driven_ends g.O.LiveLog.log g.O.LiveLog.shows g.O.LiveLog.heads g.F.Feed.gives g.L.Write.contents c.args.publish_loop c.loop.publish_loop
    (record { running = c.args.self.now; feed = c.args.feed.now; out = c.args.out.now }) (record { running = c.loop.self; feed = c.loop.feed; out = c.loop.out })
    (record { running = c.carry_out.new.self; feed = c.carry_out.new.feed; out = c.carry_out.new.out })
    c.loop.counter c.loop.invariant.1 c.in_default.ensures.carried.0 c.in_default.ensures.carried.1

pub loop-preserved : goal.loop-preserved
loop-preserved g c = (
  record {
    holds = c.in-Some.ensures.kept.holds;
    rings = c.in-Some.ensures.kept.rings ∙ c.loop.invariant.0.rings;
    begun = c.in-Some.ensures.kept.begun ∙ c.loop.invariant.0.begun;
  },
  driven_next g.O.LiveLog.log g.O.LiveLog.shows g.O.LiveLog.heads g.F.Feed.gives g.L.Write.contents c.args.publish_loop c.loop.publish_loop c.after-publish_loop.result
      (record { running = c.args.self.now; feed = c.args.feed.now; out = c.args.out.now }) (record { running = c.loop.self; feed = c.loop.feed; out = c.loop.out })
      (record { running = c.carry_out.new.self; feed = c.carry_out.new.feed; out = c.carry_out.new.out })
      c.loop.counter c.in-Some.event c.loop.invariant.1 c.in-Some.ensures.carried c.after-publish_loop.ensures,
)

pub loop-init : goal.loop-init
loop-init g c = grind (arith, common_steps)

pub returns-in_default-clause-kept : goal.returns-in_default-clause-kept
returns-in_default-clause-kept g c = grind (arith, common_steps)
