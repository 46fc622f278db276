use Rattle.std.proofs.Common.{List, ap, sym, ◌∙◌, Some}
use Rattle.std.specs.Prelude.{bytes_eq, is_some}
use Rattle.std.specs.Map.{update}
use Rattle.std.proofs.lemmas.List.{take_all}
use Rattle.tl_witness.specs.ByOrigin.{index_of}
use Rattle.tl_witness.proofs.ByOriginLaws.{indexed_first, indexed_more, known_twice, none_known}
use Rattle.tl_witness.proofs.by_origin.places_in.Goals as goal

pub loop-i-init : goal.loop-i-init
loop-i-init g c = indexed_first (index_of c.new-places.result) g.N.OfOrigin.origin_of c.args.list.now c.new-places.ensures

pub returns-then-is_some-clause-ok : goal.returns-then-is_some-clause-ok
returns-then-is_some-clause-ok g c =
    let here = c.find.ensures ∙ ap (λ (o : List _). index_of c.loop-i.places o) c.origin-origin.ensures in
    known_twice (index_of c.loop-i.places) g.N.OfOrigin.origin_of c.args.list.now c.loop-i.i c.index-list-i.result c.loop-i-test.true c.index-list-i.is c.loop-i.invariant
    (ap is_some (sym here) ∙ sym c.if-is_some.ensures)

pub loop-i-preserved : goal.loop-i-preserved
loop-i-preserved g c =
    let here = c.find.ensures ∙ ap (λ (o : List _). index_of c.loop-i.places o) c.origin-origin.ensures in
    indexed_more (index_of c.loop-i.places) (index_of c.add.new.self) g.N.OfOrigin.origin_of c.args.list.now c.loop-i.i c.index-list-i.result
    c.loop-i-test.true c.index-list-i.is c.loop-i.invariant (none_known _ (c.if-is_some.ensures ∙ ap is_some here))
    (λ o. c.in_ok-add.ensures.added o ∙ ap (λ (bs : List _). update bytes_eq (index_of c.loop-i.places) bs (Some c.loop-i.i) o) c.origin-origin.ensures)

pub returns-clause-ok : goal.returns-clause-ok
returns-clause-ok g c = (
  rw (take_all c.loop-i.i c.args.list.now c.loop-i-test.false) at c.loop-i.invariant.known,
  rw (take_all c.loop-i.i c.args.list.now c.loop-i-test.false) at c.loop-i.invariant.once,
)
