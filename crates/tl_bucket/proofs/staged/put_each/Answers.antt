use Rattle.std.proofs.Common.{subst}
use Rattle.std.specs.Prelude.{All}
use Rattle.std.proofs.lemmas.List.{take_all}
use Rattle.std.proofs.lemmas.List.Elements.{All-more}
use Rattle.tl_bucket.specs.Inner.Puts.{IsThere}
use Rattle.tl_bucket.proofs.staged.put_each.Goals as goal

pub loop-one-preserved : goal.loop-one-preserved
loop-one-preserved g c =
    All-more (IsThere c.args.client.now) c.args.staged.now c.loop-one.one-index c.one-item.result c.loop-one-test.true c.loop-one.invariant
    (subst (IsThere c.args.client.now) c.one-item.is c.in_ok-put_one.ensures)

pub returns : goal.returns
returns g c = subst (All (IsThere c.args.client.now)) (take_all c.loop-one.one-index c.args.staged.now c.loop-one-test.false) c.loop-one.invariant
