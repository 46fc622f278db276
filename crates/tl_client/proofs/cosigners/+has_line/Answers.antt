use Rattle.std.proofs.lemmas.List.{take_rest}
use Rattle.tl_client.proofs.ByKeys.{line_found}
use Rattle.tl_client.proofs.cosigners.+has_line.Goals as goal

pub returns : goal.returns
returns g t c =
    line_found c.args.text.now _ c.args.lines.now c.first-item.result _
    (take_rest c.args.lines.now 1) c.in-len1-up.len_at_least c.first-item.is (rw (c.in_default-2.is) at c.in_ok-cosigned_at.ensures) c.has_line.result c.has_line.ensures
