use Rattle.std.proofs.lemmas.List.{take_rest}
use Rattle.tl_policy.proofs.CosignedLaws.{line_passed, list_is}
use Rattle.tl_policy.proofs.cosigned.+first_time.Goals as goal

pub returns : goal.returns
returns g t c =
    line_passed c.args.text.now c.args.key.now c.args.lines.now _ c.line-item.result c.first_time.result
    (list_is c.args.lines.now _ c.line-item.result c.in-len1-up.len_at_least c.line-item.is (take_rest c.args.lines.now 1))
    (rw c.in_default-2.is at c.in_ok-time.ensures) c.first_time.ensures
