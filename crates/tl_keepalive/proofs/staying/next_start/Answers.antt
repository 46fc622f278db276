use Rattle.tl_keepalive.proofs.Stayings.{cut, unasked, unsized}
use Rattle.tl_keepalive.proofs.staying.next_start.Goals as goal
use Rattle.std.proofs.Common.{sym, ◌∙◌}

pub returns-then-not-asks_to_stay : goal.returns-then-not-asks_to_stay
returns-then-not-asks_to_stay c =
    unasked c.args.bytes.now c.in-Some.facts c.in-Some.ensures (sym c.asks_to_stay.ensures ∙ c.if-not-asks_to_stay.true) c.args.status

pub returns-in_default-body_len : goal.returns-in_default-body_len
returns-in_default-body_len c = unsized c.args.bytes.now c.in-Some.facts c.in-Some.ensures c.in_default-body_len.ensures c.args.status

pub returns-then-body-bytes : goal.returns-then-body-bytes
returns-then-body-bytes c =
    cut c.args.bytes.now c.in-Some.facts c.in-Some.ensures c.in-Some-body_len.body c.in-Some-body_len.ensures c.if-body-bytes.true c.args.status
