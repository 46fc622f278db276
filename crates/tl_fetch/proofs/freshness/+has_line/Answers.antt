use Rattle.std.proofs.Common.{arith}
use Rattle.std.proofs.lemmas.List.{take_rest}
use Rattle.tl_fetch.specs.Inner.Freshness.{IsEarly, IsLate}
use Rattle.tl_fetch.proofs.FreshLemmas.{first_found, list_is, none_each, search_more}
use Rattle.tl_fetch.proofs.freshness.+has_line.Goals as goal

pub returns-in_default : goal.returns-in_default
returns-in_default t c =
    none_each (IsEarly c.args.text.now c.args.since _) c.args.lines.now (omega (arith, c.in_default.len_below))

pub returns-then-branch : goal.returns-then-branch
returns-then-branch t c =
    first_found (IsLate c.args.text.now c.args.since _) c.args.lines.now c.first-item.result _
    (list_is c.args.lines.now c.first-item.result _ (take_rest c.args.lines.now 1) c.in-len1-up.len_at_least c.first-item.is)
    (rw (c.if-branch.true) at c.in_ok-is_late.ensures)

pub returns : goal.returns
returns t c =
    search_more (IsLate c.args.text.now c.args.since _) (IsEarly c.args.text.now c.args.since _) c.args.lines.now c.first-item.result _
    (list_is c.args.lines.now c.first-item.result _ (take_rest c.args.lines.now 1) c.in-len1-up.len_at_least c.first-item.is)
    (rw (c.if-branch.false) at c.in_ok-is_late.ensures) c.has_line.result c.has_line.ensures
