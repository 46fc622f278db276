use Rattle.std.proofs.Common.{List, subst, arith}
use Rattle.std.proofs.lemmas.Grind.{common_steps}
use Rattle.std.proofs.lemmas.List.{take_all}
use Rattle.tl_ledger.specs.Inner.Reads.{LacksItem, items_of}
use Rattle.tl_ledger.proofs.Reopening.{lacks_more, untrue}
use Rattle.tl_ledger.proofs.opened.shelf_source.text_in.Goals as goal

pub loop-item-preserved : goal.loop-item-preserved
loop-item-preserved g c =
    lacks_more c.args.items.now c.loop-item.item-index c.item-item.result c.args.resource.now c.loop-item-test.true c.item-item.is (λ same. untrue c.is_same.result c.if-is_same.false (c.is_same.ensures.1 same)) c.loop-item.invariant

pub returns : goal.returns
returns g c = subst (λ (xs : List _). LacksItem (items_of xs) c.args.resource.now) (take_all c.loop-item.item-index c.args.items.now c.loop-item-test.false) c.loop-item.invariant

pub returns-then-is_same : goal.returns-then-is_same
returns-then-is_same g c = grind (arith, common_steps)
