use Rattle.std.proofs.Common.{arith, inl, refl}
use Rattle.tl_server.specs.Adding.{Misplace, Postpone, Reply}
use Rattle.tl_server.specs.Answer.{bare, busy}
use Rattle.tl_server.proofs.OpenLemmas.{sent_takes, unwritten}
use Rattle.tl_server.proofs.PlaceLemmas.{looked_on_board}
use Rattle.tl_server.proofs.open_log.answer_status.Goals as goal

pub returns-in-Later : goal.returns-in-Later
returns-in-Later g c = rw c.in-Later.is (record { course = Postpone; decided = (refl, refl); takes = (refl, unwritten _ _) })

pub returns-in-Refused : goal.returns-in-Refused
returns-in-Refused g c =
    rw c.in-Refused.is (record {
      course = Reply busy;
      decided = (refl, refl);
      takes = sent_takes busy _ c.refuse_busy.result c.outcome_of.result c.refuse_busy.ensures c.outcome_of.ensures;
    })

pub returns-in-NoMemory : goal.returns-in-NoMemory
returns-in-NoMemory g c =
    rw c.in-NoMemory.is (record {
      course = Reply (bare 500);
      decided = (refl, refl);
      takes = sent_takes (bare 500) _ c.refuse.result c.outcome_of-in-NoMemory.result c.refuse.ensures c.outcome_of-in-NoMemory.ensures;
    })

pub returns-then-index-size : goal.returns-then-index-size
returns-then-index-size g c =
    rw c.in-At.is (record {
      course = Misplace;
      decided = inl ((λ less. absurd (omega (arith, less, c.if-index-size.true))), (refl, refl));
      takes = c.answer_misplaced.ensures;
    })

pub returns : goal.returns
returns g c =
    let done = c.answer_looked.ensures in
    rw c.in-At.is (record {
      course = done.course;
      decided = looked_on_board _ _ c.in-At.index c.in-At.size c.bundle_width-width.result _ c.look_on_board-looked.result done.course c.bundle_width-width.ensures.value (omega (arith, c.if-index-size.false)) c.look_on_board-looked.ensures done.decided;
      takes = done.takes;
    })
