use Rattle.std.proofs.Common.{◌++◌, false, refl}
use Rattle.tl_server.specs.Witness.{Replies, reply_answer}
use Rattle.tl_server.specs.Inner.Sending.{refusal}
use Rattle.tl_server.proofs.WitnessLemmas.{received_answer, refused_answer, replied, rest_serves}
use Rattle.tl_server.proofs.post.answer_posted.Goals as goal

pub returns-in-Refused : goal.returns-in-Refused
returns-in-Refused g c =
    let is = c.in-Refused.ensures in
    let answer = refusal c.in-Refused.status in
    rest_serves _ _ _ _ is.bytes is.ended answer c.refuse_post.result is.gave
    (λ rest may. refused_answer _ _ c.args.posted (c.args.part.now ++ rest) answer (is.so rest may) refl) c.refuse_post.ensures

pub returns-in-Whole : goal.returns-in-Whole
returns-in-Whole g c =
    let is = c.in-Whole.ensures in
    let reply = c.reply-reply.result in
    let sent = c.as_slice-in-Whole.result.now in
    let answer = reply_answer reply.status sent in
    rest_serves _ _ _ _ is.read.bytes false answer c.send_reply.result is.read.gave
    (λ rest may. received_answer _ (Replies _ _ _ _ _) _ c.args.posted c.args.part.now _ _ rest answer is c.as_slice.ensures.value may
    (replied _ _ _ _ _ _ reply.status reply.body.items sent c.as_slice-in-Whole.ensures.value c.reply-reply.ensures)) c.send_reply.ensures
