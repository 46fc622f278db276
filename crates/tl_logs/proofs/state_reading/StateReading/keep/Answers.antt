use Rattle.std.proofs.Common.{sym, arith}
use Rattle.std.proofs.lemmas.Grind.{common_steps}
use Rattle.tl_proof.specs.Acceptance.{step_of}
use Rattle.tl_logs.specs.ReadState.{heads_shown}
use Rattle.tl_logs.specs.Inner.Counting.{counts_of}
use Rattle.tl_logs.proofs.StreamLaws.{keeps}
use Rattle.tl_logs.proofs.state_reading.StateReading.keep.Goals as goal

pub returns-clause-kept : goal.returns-clause-kept
returns-clause-kept g c = rw (c.outcome_at.ensures, ← c.self.view_is)
    (keeps g.T.TreeHash.digest_of (counts_of c.args.counting.now) c.args.origin.now (step_of c.args.link.now) (heads_shown c.self.inside.heads.items) (heads_shown c.take_link-outcome.new.heads.items)
    c.self.inside.line c.self.inside.begun.items c.take_link-outcome.result (sym c.if-not-counts.ensures) c.take_link-outcome.ensures.taken)

pub returns-clause-begun : goal.returns-clause-begun
returns-clause-begun g c = grind (arith, common_steps)

pub returns-clause-line : goal.returns-clause-line
returns-clause-line g c = grind (arith, common_steps)

pub returns-then-not-counts-clause-kept : goal.returns-then-not-counts-clause-kept
returns-then-not-counts-clause-kept g c = grind (arith, common_steps)
