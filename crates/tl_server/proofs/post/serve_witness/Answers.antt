use Rattle.std.proofs.Common.{refl, rules, arith}
use Rattle.std.proofs.lemmas.Grind.{common_steps}
use Rattle.tl_server.specs.Witness.{Replies}
use Rattle.tl_server.proofs.ServeLemmas.{headless_serves}
use Rattle.tl_server.proofs.WitnessLemmas.{other_target, serves_after, witness_posted}
use Rattle.tl_server.proofs.post.serve_witness.Goals as goal

pub returns-in-NoHead : goal.returns-in-NoHead
returns-in-NoHead g c = headless_serves _ _ _ _ c.in-NoHead.status c.refuse.result refl c.in-NoHead.ensures c.refuse.ensures

pub returns-then-not-is_text : goal.returns-then-not-is_text
returns-then-not-is_text g c =
    other_target _ _ _ _ c.read_head.new.buf c.read_head.new.headers c.in-Head.len c.in-Head.spans _ c.refuse-then-not-is_text.result c.in-Head.ensures c.of.ensures (search rules) refl c.refuse-then-not-is_text.ensures

pub returns-else-not-is_text : goal.returns-else-not-is_text
returns-else-not-is_text g c =
    let buf = c.read_head.new.buf in
    let headers = c.read_head.new.headers in
    let len = c.in-Head.len in
    let spans = c.in-Head.spans in
    serves_after _ _ _ _ _ _ _ _ _ _ buf headers len spans c.answer_posted.result c.in-Head.ensures
    (λ rest answer is. witness_posted _ (Replies _ _ _ _ _) _ buf headers len spans c.in-Head.ensures _ c.posted_of-posted.result rest answer c.of.ensures (search rules) c.posted_of-posted.ensures is) c.answer_posted.ensures

pub posted_of-posted-requires-clause-within : goal.posted_of-posted-requires-clause-within
posted_of-posted-requires-clause-within g c = grind (arith, common_steps)

pub returns-in-Nothing : goal.returns-in-Nothing
returns-in-Nothing g c = grind (arith, common_steps)
