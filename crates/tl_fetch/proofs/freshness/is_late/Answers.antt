use Rattle.tl_fetch.proofs.FreshLemmas.{line_judged, line_never}
use Rattle.tl_fetch.proofs.freshness.is_late.Goals as goal

pub returns-in_default : goal.returns-in_default
returns-in_default c = line_never c.args.text.now c.args.since _ c.args.line.now (rw (c.in_default.is) at c.in_ok-time.ensures)

pub returns : goal.returns
returns c = line_judged c.args.text.now c.args.since _ c.args.line.now c.in-Some.time (rw (c.in-Some.is) at c.in_ok-time.ensures)
