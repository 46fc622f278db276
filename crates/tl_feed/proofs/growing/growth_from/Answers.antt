use Rattle.tl_feed.proofs.Growths.{made_from}
use Rattle.tl_feed.proofs.growing.growth_from.Goals as goal

pub returns-clause-growth : goal.returns-clause-growth
returns-clause-growth g c =
    made_from (g.S.ResourceSource.may_answer c.args.source.now) c.args.head.now c.args.old c.in_ok-proof.proof.items c.in_ok-proof.ensures.in_range.0.0
    (rw (c.new-reader.ensures) at c.in_ok-proof.ensures.proof)
