use Rattle.std.proofs.Common.{arith}
use Rattle.std.proofs.lemmas.List.{take_rest}
use Rattle.tl_fetch.specs.Inner.Freshness.{AreEarly, HasLate}
use Rattle.tl_fetch.proofs.FreshLemmas.{first_found, keys_are, none_mapped, search_more}
use Rattle.tl_fetch.proofs.freshness.+has_witness.Goals as goal

pub returns-in_default : goal.returns-in_default
returns-in_default t c =
    none_mapped _ (AreEarly c.args.text.now c.args.lines.now c.args.since) c.args.witnesses.now (omega (arith, c.in_default.len_below))

pub returns-then-branch : goal.returns-then-branch
returns-then-branch t c =
    first_found (HasLate c.args.text.now c.args.lines.now c.args.since) _ _ _
    (keys_are _ c.args.witnesses.now c.first-item.result _ (take_rest c.args.witnesses.now 1) c.in-len1-up.len_at_least c.first-item.is)
    (rw (c.if-branch.true) at c.in_ok-has_line.ensures)

pub returns : goal.returns
returns t c =
    search_more (HasLate c.args.text.now c.args.lines.now c.args.since) (AreEarly c.args.text.now c.args.lines.now c.args.since) _ _ _
    (keys_are _ c.args.witnesses.now c.first-item.result _ (take_rest c.args.witnesses.now 1) c.in-len1-up.len_at_least c.first-item.is)
    (rw (c.if-branch.false) at c.in_ok-has_line.ensures) c.has_witness.result c.has_witness.ensures
