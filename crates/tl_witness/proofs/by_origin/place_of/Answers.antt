use Rattle.std.proofs.Common.{◌≡◌, length, refl, sym, true, false, ◌∙◌, arith}
use Rattle.std.proofs.lemmas.Grind.{common_steps}
use Rattle.std.proofs.lemmas.Slice.Eq.{bytes_eq-Decides}
use Rattle.tl_witness.proofs.PlaceLaws.{not_below, nowhere, shows_at}
use Rattle.tl_witness.proofs.by_origin.place_of.Goals as goal

pub loop-i-preserved : goal.loop-i-preserved
loop-i-preserved g c =
    not_below g.N.OfOrigin.origin_of c.args.list.now (length c.args.list.now) c.loop-i.i c.index-list-i.result c.args.origin.now
    refl c.loop-i-test.true c.index-list-i.is
    (λ same. let no : false ≡ true = sym c.if-eq.false ∙ c.eq.ensures ∙ (bytes_eq-Decides _ _).1 (c.origin.ensures ∙ same) in cc) c.loop-i.invariant

pub returns-then-eq-clause-found : goal.returns-then-eq-clause-found
returns-then-eq-clause-found g c =
    let same = (bytes_eq-Decides c.origin.result.now c.args.origin.now).0 (sym c.eq.ensures ∙ c.if-eq.true) in
    shows_at g.N.OfOrigin.origin_of c.args.list.now (length c.args.list.now) c.loop-i.i c.index-list-i.result c.args.origin.now
    refl c.loop-i-test.true c.index-list-i.is (sym c.origin.ensures ∙ same)

pub returns-clause-none : goal.returns-clause-none
returns-clause-none g c =
    nowhere g.N.OfOrigin.origin_of c.args.list.now (length c.args.list.now) c.loop-i.i c.args.origin.now
    refl c.loop-i-test.false c.loop-i.invariant

pub returns-then-eq-clause-none : goal.returns-then-eq-clause-none
returns-then-eq-clause-none g c = grind (arith, common_steps)

pub returns-then-eq-clause-room : goal.returns-then-eq-clause-room
returns-then-eq-clause-room g c = grind (arith, common_steps)
