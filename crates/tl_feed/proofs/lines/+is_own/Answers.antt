use Rattle.std.proofs.Common.{arith, sym}
use Rattle.std.proofs.lemmas.List.{take_rest}
use Rattle.tl_feed.proofs.Others.{key_found}
use Rattle.tl_feed.proofs.lines.+is_own.Goals as goal

pub returns-in-Some : goal.returns-in-Some
returns-in-Some t c =
    (0, c.first-item.result, omega (arith, c.in-len1-up.len_at_least), sym c.first-item.is, (_, rw (c.in-Some.is) at c.in_ok-cosigned_at.ensures))

pub returns : goal.returns
returns t c =
    key_found _ c.args.text.now c.args.line.now c.args.keys.now c.first-item.result _ (take_rest c.args.keys.now 1) c.in-len1-up.len_at_least c.first-item.is
    (rw (c.in_default-2.is) at c.in_ok-cosigned_at.ensures) c.is_own.result c.is_own.ensures
