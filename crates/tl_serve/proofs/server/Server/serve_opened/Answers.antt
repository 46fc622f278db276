use Rattle.std.proofs.Common.{ap, arith}
use Rattle.std.proofs.lemmas.Grind.{common_steps}
use Rattle.tl_sequencer.specs.Log.{rings_of}
use Rattle.tl_serve.proofs.Ends.{senders_of}
use Rattle.tl_serve.proofs.server.Server.serve_opened.Goals as goal

pub serve_published-running-requires-clause-senders : goal.serve_published-running-requires-clause-senders
serve_published-running-requires-clause-senders g c κs within =
    senders_of (λ l. l.submitter) c.in_ok-lanes.lanes.items c.args.submitters.items (g.O.RunningLog.state c.args.opened).log (g.O.RunningLog.state c.publish_first.new.log).log
    c.in_ok-lanes.ensures c.requires.senders (ap rings_of c.publish_first.ensures.same)

pub publish_first-requires-clause-operating : goal.publish_first-requires-clause-operating
publish_first-requires-clause-operating g c = grind (arith, common_steps)

pub publish_first-requires-clause-seen : goal.publish_first-requires-clause-seen
publish_first-requires-clause-seen g c = grind (arith, common_steps)

pub same-board : goal.same-board
same-board g c = grind (arith, common_steps)

pub same-lines : goal.same-lines
same-lines g c = grind (arith, common_steps)
