use Rattle.std.proofs.Common.{arith, drop, length, refl, take, ◌-◌}
use Rattle.std.proofs.lemmas.List.{take_rest}
use Rattle.tl_client.proofs.ByKeys.{by_none, one_again, one_more, no_more}
use Rattle.tl_client.proofs.cosigners.+cosigner_names.Goals as goal

pub returns-then-is_among : goal.returns-then-is_among
returns-then-is_among g t c =
    one_again _ c.args.text.now c.args.witnesses.now c.first-item.result
    (take (length c.args.witnesses.now - 1) (drop 1 c.args.witnesses.now)) c.args.lines.now
    (take_rest c.args.witnesses.now 1) c.in-len1-up.len_at_least c.first-item.is (λ n. n.now) c.in_ok-names.names.items c.in_ok-names.ensures c.as_slice.result.now c.as_slice.ensures.value
    c.name_of-name.result.now c.name_of-name.ensures (c.if-is_among.ensures.0 refl)

pub returns-then-not-branch : goal.returns-then-not-branch
returns-then-not-branch g t c =
    no_more _ c.args.text.now c.args.witnesses.now c.first-item.result
    (take (length c.args.witnesses.now - 1) (drop 1 c.args.witnesses.now)) c.args.lines.now
    (take_rest c.args.witnesses.now 1) c.in-len1-up.len_at_least c.first-item.is (λ n. n.now) c.in_ok-names.names.items c.in_ok-names.ensures c.as_slice.result.now c.as_slice.ensures.value
    (rw (c.if-not-branch.true) at c.in_ok-has_line.ensures)

pub returns : goal.returns
returns g t c =
    one_more _ c.args.text.now c.args.witnesses.now c.first-item.result
    (take (length c.args.witnesses.now - 1) (drop 1 c.args.witnesses.now)) c.args.lines.now
    (take_rest c.args.witnesses.now 1) c.in-len1-up.len_at_least c.first-item.is (λ n. n.now) c.in_ok-names.names.items c.in_ok-names.ensures c.as_slice.result.now c.as_slice.ensures.value
    c.name_of-name.result c.name_of-name.ensures c.if-is_among.ensures.1 (rw (c.if-not-branch.false) at c.in_ok-has_line.ensures) c.push.new.self.items c.in_ok-push.ensures.items

pub returns-in_default : goal.returns-in_default
returns-in_default g t c =
    by_none _ _ c.args.text.now c.args.witnesses.now c.args.lines.now c.new.result.items (omega (arith, c.in_default.len_below)) c.new.ensures.items
