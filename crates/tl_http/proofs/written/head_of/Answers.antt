use Rattle.std.proofs.Common.{codes, flat_map, map}
use Rattle.tl_http.specs.Message.{field_of, field_text, length_text, sent_head}
use Rattle.tl_http.proofs.RequestLemmas.{seven_pieces}
use Rattle.tl_http.proofs.written.head_of.Goals as goal

pub returns : goal.returns
unfolding sent_head
returns g c =
    let message = c.args.message.now in
    record {
      head = seven_pieces c.new-head.result.items c.push.new.out.items c.push-2.new.out.items c.push-3.new.out.items c.push-4.new.out.items c.push_fields.new.out.items
          c.push_length.new.out.items c.push-5.new.out.items
          message.method.now (codes " ") message.target.now (codes " HTTP/1.1\r\n") (flat_map field_text (map field_of message.fields.now))
          (length_text message.method.now message.body.now) (codes "\r\n")
          c.new-head.ensures.items c.in_ok-push.ensures.pushed c.in_ok-push-2.ensures.pushed c.in_ok-push-3.ensures.pushed c.in_ok-push-4.ensures.pushed
          c.in_ok-push_fields.ensures.pushed c.in_ok-push_length.ensures.pushed c.in_ok-push-5.ensures.pushed;
    }
