use Rattle.std.proofs.Common.{refl, arith}
use Rattle.std.proofs.lemmas.Grind.{common_steps}
use Rattle.tl_serve.proofs.Ends.{senders_of}
use Rattle.tl_serve.proofs.serve_shelf.open_log.Goals as goal

pub returns-clause-lanes : goal.returns-clause-lanes
returns-clause-lanes g c =
    senders_of (λ l. l.submitter) c.in_ok-lanes.lanes.items c.in-Ok-open_lanes.opened.1.items c.in-Ok-open_lanes.opened.0.log c.in-Ok-open_lanes.opened.0.log
    c.in_ok-lanes.ensures c.in-Ok-open_lanes.ensures.own refl

pub same-intake : goal.same-intake
same-intake g c = grind (arith, common_steps)

pub same-lines : goal.same-lines
same-lines g c = grind (arith, common_steps)
