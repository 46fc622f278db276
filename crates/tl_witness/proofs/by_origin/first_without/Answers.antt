use Rattle.std.proofs.Common.{◌≢◌, None, ap, ◌∙◌}
use Rattle.std.proofs.lemmas.List.{take_all}
use Rattle.tl_witness.specs.ByOrigin.{index_of}
use Rattle.tl_witness.proofs.ByOriginLaws.{unknown, is_known}
use Rattle.tl_witness.proofs.ListLaws.{all_more, first_fails}
use Rattle.tl_witness.proofs.by_origin.first_without.Goals as goal

pub returns-then-is_none : goal.returns-then-is_none
returns-then-is_none g c =
    first_fails g.N.OfOrigin.origin_of (λ o. index_of c.args.places.now o ≢ None) c.args.list.now c.loop-i.i c.index-list-i.result
    c.loop-i-test.true c.index-list-i.is c.loop-i.invariant
    (unknown c.find.result _ (c.find.ensures ∙ ap (index_of c.args.places.now) c.origin.ensures) (c.if-is_none.ensures))

pub loop-i-preserved : goal.loop-i-preserved
loop-i-preserved g c =
    all_more g.N.OfOrigin.origin_of (λ o. index_of c.args.places.now o ≢ None) c.args.list.now c.loop-i.i c.index-list-i.result
    c.loop-i-test.true c.index-list-i.is c.loop-i.invariant
    (is_known c.find.result _ (c.find.ensures ∙ ap (index_of c.args.places.now) c.origin.ensures) (c.if-is_none.ensures))

pub returns : goal.returns
returns g c = rw (take_all c.loop-i.i c.args.list.now c.loop-i-test.false) at c.loop-i.invariant
