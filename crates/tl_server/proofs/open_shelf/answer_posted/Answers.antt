use Rattle.std.proofs.Common.{◌++◌, false, refl}
use Rattle.tl_server.specs.Adding.{Reply}
use Rattle.tl_server.specs.Inner.Opening.{StatusOnShelf}
use Rattle.tl_server.specs.Inner.Sending.{refusal}
use Rattle.tl_server.proofs.OpenLemmas.{received_course, refused_course, rest_open, sent_takes}
use Rattle.tl_server.proofs.open_shelf.answer_posted.Goals as goal

pub returns-in-Refused-clause-answered : goal.returns-in-Refused-clause-answered
returns-in-Refused-clause-answered g c =
    let is = c.in-Refused.ensures in
    let answer = refusal c.in-Refused.status in
    rest_open _ _ _ _ is.bytes is.ended (Reply answer) c.outcome_of.result is.gave
    (λ rest may. refused_course _ _ _ c.args.posted (c.args.part.now ++ rest) answer (is.so rest may) refl tt)
    (sent_takes answer _ c.refuse_post.result c.outcome_of.result c.refuse_post.ensures c.outcome_of.ensures)

pub returns-in-Whole-clause-answered : goal.returns-in-Whole-clause-answered
returns-in-Whole-clause-answered g c =
    let is = c.in-Whole.ensures in
    let done = c.answer_status.ensures.answered in
    rest_open _ _ _ _ is.read.bytes false done.course c.answer_status.result is.read.gave
    (λ rest may. received_course _ _ (g.T.Submits.submits c.args.queue.now c.submit-entry_status.new.self) (StatusOnShelf _ _ _ _) _ c.args.posted c.args.part.now _ _ rest c.submit-entry_status.result done.course is c.as_slice-entry.ensures.value may c.submit-entry_status.ensures done.decided) done.takes
