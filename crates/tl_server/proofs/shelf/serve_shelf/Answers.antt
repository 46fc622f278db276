use Rattle.std.proofs.Common.{arith}
use Rattle.std.proofs.lemmas.Grind.{common_steps}
use Rattle.tl_server.specs.Log.{ShelfAnswers}
use Rattle.tl_server.proofs.ServeLemmas.{headless_serves, headed_serves}
use Rattle.tl_server.proofs.shelf.serve_shelf.Goals as goal

pub returns-in-NoHead : goal.returns-in-NoHead
returns-in-NoHead g c = headless_serves _ _ _ _ c.in-NoHead.status c.refuse.result tt c.in-NoHead.ensures c.refuse.ensures

pub returns-in-Head : goal.returns-in-Head
returns-in-Head g c =
    headed_serves _ (ShelfAnswers _ _ _ _) _ _ c.read_head.new.buf c.read_head.new.headers c.in-Head.len c.in-Head.spans _ _ c.answer_shelf.result
    c.of-method.ensures c.of-target.ensures c.in-Head.ensures c.answer_shelf.ensures

pub returns-in-Nothing : goal.returns-in-Nothing
returns-in-Nothing g c = grind (arith, common_steps)
