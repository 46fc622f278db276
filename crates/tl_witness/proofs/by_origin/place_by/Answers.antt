use Rattle.std.proofs.Common.{length, refl, sym, ◌∙◌, arith}
use Rattle.std.proofs.lemmas.Grind.{common_steps}
use Rattle.std.proofs.lemmas.Slice.Eq.{bytes_eq-Decides}
use Rattle.tl_witness.proofs.PlaceLaws.{shows_at}
use Rattle.tl_witness.proofs.by_origin.place_by.Goals as goal

pub returns-then-eq-clause-found : goal.returns-then-eq-clause-found
returns-then-eq-clause-found g c =
    let same = (bytes_eq-Decides c.origin.result.now c.args.origin.now).0 (sym c.eq.ensures ∙ c.if-eq.true) in
    let within = c.if-place-list.true in
    shows_at g.N.OfOrigin.origin_of c.args.list.now (length c.args.list.now) c.in-Some.place c.index-list-place.result c.args.origin.now
    refl within c.index-list-place.is (sym c.origin.ensures ∙ same)

pub returns-then-eq-clause-room : goal.returns-then-eq-clause-room
returns-then-eq-clause-room g c = grind (arith, common_steps)
