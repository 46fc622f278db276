use Rattle.std.proofs.Common.{refl}
use Rattle.tl_server.proofs.AnswerLemmas.{answer_in_pieces}
use Rattle.tl_server.proofs.OutcomeLemmas.{sends_part}
use Rattle.tl_server.proofs.sending.send.Goals as goal

pub returns : goal.returns
returns g c = (
  refl,
  rw (answer_in_pieces c.args.status c.args.allow.now c.args.kind.now c.args.body.now)
      (rw (
        c.as_bytes-status_text.ensures.value,
        c.format.ensures.text,
        c.as_bytes-size_text.ensures.value,
        c.format-2.ensures.text,
        c.as_bytes-reason.ensures.value,
        c.phrase_of.ensures,
        c.retry_of-retry.ensures,
      ) at c.in_ok-put_texts.ensures.whole),
)

pub returns-in_err-put_texts : goal.returns-in_err-put_texts
returns-in_err-put_texts g c =
    sends_part _ _ c.from_residual.result c.from_residual.ensures.1
    (rw (answer_in_pieces c.args.status c.args.allow.now c.args.kind.now c.args.body.now)
    (rw (
      c.as_bytes-status_text.ensures.value,
      c.format.ensures.text,
      c.as_bytes-size_text.ensures.value,
      c.format-2.ensures.text,
      c.as_bytes-reason.ensures.value,
      c.phrase_of.ensures,
      c.retry_of-retry.ensures,
    ) at c.in_err-put_texts.ensures.part))
