use Rattle.tl_http.proofs.RequestLemmas.{post_in_pieces}
use Rattle.tl_http.proofs.sending.send_post.Goals as goal

pub returns-clause-whole : goal.returns-clause-whole
returns-clause-whole g c =
    rw (← post_in_pieces c.args.host.now c.args.target.now c.args.body.now)
    (rw (c.as_bytes-size.ensures.value, c.format.ensures.text) at c.put_post.ensures.whole)

pub returns-clause-part : goal.returns-clause-part
returns-clause-part g c =
    rw (← post_in_pieces c.args.host.now c.args.target.now c.args.body.now)
    (rw (c.as_bytes-size.ensures.value, c.format.ensures.text) at c.put_post.ensures.part)
