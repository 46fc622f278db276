use Rattle.std.proofs.Common.{sym, true≢false}
use Rattle.tl_cli.proofs.Credentials.{cut_of_key}
use Rattle.tl_cli.proofs.own_bucket.parse_key.Goals as goal

pub returns-then-not-is_key : goal.returns-then-not-is_key
returns-then-not-is_key c = λ id own key. true≢false (sym (c.if-not-is_key.ensures.1
    (cut_of_key c.args.text.now c.in-Some.id.now c.in-Some.rest.now c.cut_line.result.0.now c.cut_line.result.1.now c.in-Some.ensures.0 c.in-Some.ensures.1 c.cut_line.ensures id own key)))
