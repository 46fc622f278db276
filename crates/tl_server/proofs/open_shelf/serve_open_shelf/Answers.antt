use Rattle.std.proofs.Common.{refl, rules, arith, subst}
use Rattle.std.proofs.lemmas.Grind.{common_steps}
use Rattle.tl_server.specs.Adding.{LooksTwice}
use Rattle.tl_server.specs.Answer.{bare}
use Rattle.tl_server.specs.Inner.Deciding.{Answered}
use Rattle.tl_server.specs.Log.{ShelfAnswers}
use Rattle.tl_device.specs.Device.{passage}
use Rattle.tl_server.proofs.OpenLemmas.{headless_open, open_after, open_posted, other_page, sent_takes}
use Rattle.tl_server.proofs.open_shelf.serve_open_shelf.Goals as goal

pub returns-in-NoHead-clause-answered : goal.returns-in-NoHead-clause-answered
returns-in-NoHead-clause-answered g c =
    headless_open _ _ _ _ c.in-NoHead.status c.outcome_of.result refl c.in-NoHead.ensures
    (sent_takes (bare c.in-NoHead.status) _ c.refuse.result c.outcome_of.result c.refuse.ensures c.outcome_of.ensures)

pub returns-then-not-is_text-clause-answered : goal.returns-then-not-is_text-clause-answered
returns-then-not-is_text-clause-answered g c =
    other_page LooksTwice (g.T.Submits.submits _ _) _ _ _ _ _ _ c.read_head.new.buf c.read_head.new.headers c.in-Head.len c.in-Head.spans _ _ c.answer_shelf.result c.outcome_of-then-not-is_text.result c.in-Head.ensures
    c.of-method.ensures c.of-target.ensures (search rules) refl (subst (λ s. Answered (ShelfAnswers g.row.A.Denot g.S.Shelf.is_honest (g.S.Shelf.kept s).held (g.S.Shelf.may_fail s) c.of-method.result.now c.of-target.result.now) (passage g.O.Write.contents c.args.writer.now c.answer_shelf.new.writer) c.answer_shelf.result) c.shelf.ensures c.answer_shelf.ensures) c.outcome_of-then-not-is_text.ensures

pub returns-else-not-is_text-clause-answered : goal.returns-else-not-is_text-clause-answered
returns-else-not-is_text-clause-answered g c =
    let buf = c.read_head.new.buf in
    let headers = c.read_head.new.headers in
    let len = c.in-Head.len in
    let spans = c.in-Head.spans in
    open_after _ _ _ _ _ _ _ _ _ _ buf headers len spans c.answer_posted.result c.in-Head.ensures
    (λ rest course is. open_posted LooksTwice (g.T.Submits.submits _ _) _ _ _ _ buf headers len spans c.in-Head.ensures _ c.posted_of-posted.result rest course c.of-target.ensures (search rules) c.posted_of-posted.ensures is)
    c.answer_posted.ensures.answered

pub posted_of-posted-requires-clause-within : goal.posted_of-posted-requires-clause-within
posted_of-posted-requires-clause-within g c = grind (arith, common_steps)

pub returns-in-Nothing : goal.returns-in-Nothing
returns-in-Nothing g c = grind (arith, common_steps)
