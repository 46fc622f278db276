use Rattle.std.proofs.Common.{subst}
use Rattle.std.specs.Prelude.{All}
use Rattle.std.proofs.lemmas.List.{take_all}
use Rattle.std.proofs.lemmas.List.Elements.{All-more}
use Rattle.tl_bucket.specs.Inner.Puts.{IsThere}
use Rattle.tl_bucket.proofs.workers.check_each.Goals as goal

pub loop-i-preserved : goal.loop-i-preserved
loop-i-preserved g c =
    All-more (IsThere c.args.client.now) c.args.staged.now c.loop-i.i c.index-staged-i.result c.loop-i-test.true c.loop-i.invariant
    (subst (IsThere c.args.client.now) c.index-staged-i.is c.in_ok-check_one.ensures)

pub returns : goal.returns
returns g c = subst (All (IsThere c.args.client.now)) (take_all c.loop-i.i c.args.staged.now c.loop-i-test.false) c.loop-i.invariant
