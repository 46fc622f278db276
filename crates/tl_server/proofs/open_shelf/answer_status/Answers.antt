use Rattle.std.proofs.Common.{◌/◌, arith, inl, refl, subst, sym}
use Rattle.tl_server.specs.Adding.{Misplace, Postpone, Reply}
use Rattle.tl_server.specs.Answer.{bare, busy}
use Rattle.tl_server.specs.Inner.Places.{IsLooked, ReadsBundle}
use Rattle.tl_server.specs.Log.{ReadsShelf}
use Rattle.tl_server.proofs.OpenLemmas.{sent_takes, unwritten}
use Rattle.tl_server.proofs.PlaceLemmas.{looked_on_shelf, read_of_looked}
use Rattle.tl_server.proofs.open_shelf.answer_status.Goals as goal

pub returns-in-Later-clause-answered : goal.returns-in-Later-clause-answered
returns-in-Later-clause-answered g c = rw c.in-Later.is (record { course = Postpone; decided = (tt, refl); takes = (refl, unwritten _ _) })

pub returns-in-Refused-clause-answered : goal.returns-in-Refused-clause-answered
returns-in-Refused-clause-answered g c =
    rw c.in-Refused.is (record {
      course = Reply busy;
      decided = (tt, refl);
      takes = sent_takes busy _ c.refuse_busy.result c.outcome_of.result c.refuse_busy.ensures c.outcome_of.ensures;
    })

pub returns-in-NoMemory-clause-answered : goal.returns-in-NoMemory-clause-answered
returns-in-NoMemory-clause-answered g c =
    rw c.in-NoMemory.is (record {
      course = Reply (bare 500);
      decided = (tt, refl);
      takes = sent_takes (bare 500) _ c.refuse.result c.outcome_of-in-NoMemory.result c.refuse.ensures c.outcome_of-in-NoMemory.ensures;
    })

pub returns-then-index-size-clause-answered : goal.returns-then-index-size-clause-answered
returns-then-index-size-clause-answered g c =
    rw c.in-At.is (record {
      course = Misplace;
      decided = inl ((λ less. absurd (omega (arith, less, c.if-index-size.true))), (tt, refl));
      takes = c.answer_misplaced.ensures;
    })

pub returns-clause-answered : goal.returns-clause-answered
returns-clause-answered g c =
    let done = c.answer_looked-answered.ensures in
    rw c.in-At.is (record {
      course = done.course;
      decided = looked_on_shelf _ _ c.in-At.index c.in-At.size c.bundle_width-width.result _ c.look-looked.result done.course c.bundle_width-width.ensures.value (omega (arith, c.if-index-size.false)) c.look-looked.ensures.looked done.decided;
      takes = done.takes;
    })

pub keep-requires : goal.keep-requires
keep-requires g c =
    subst
    (λ s. IsLooked (ReadsBundle (ReadsShelf g.row.A.Denot g.S.Shelf.is_honest (g.S.Shelf.kept s).held (g.S.Shelf.may_fail s)) (c.in-At.index / 256)) c.look-looked.result)
    (sym c.look-looked.ensures.same)
    (read_of_looked (ReadsShelf g.row.A.Denot g.S.Shelf.is_honest (g.S.Shelf.kept c.args.shelf.now).held (g.S.Shelf.may_fail c.args.shelf.now)) (c.in-At.index / 256) c.bundle_width-width.result c.look-looked.result c.look-looked.ensures.looked)
