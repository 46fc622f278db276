use Rattle.std.proofs.Common.{inr, refl}
use Rattle.tl_fetch.proofs.FreshLemmas.{found_fresh, found_old, unasked}
use Rattle.tl_fetch.proofs.freshness.check_fresh.Goals as goal

pub returns-in_default-clause-fresh : goal.returns-in_default-clause-fresh
returns-in_default-clause-fresh g c = unasked c.args.note.now _ c.args.policy.now.since c.in_default.is

pub returns-then-branch-clause-fresh : goal.returns-then-branch-clause-fresh
returns-then-branch-clause-fresh g c =
    found_fresh c.args.note.now _ c.args.policy.now.since c.in-Some.since c.in-Ok.view.text.now c.in-Ok.view.signatures.items c.as_slice-lines.result.now
    c.in-Some.is c.in-Ok.ensures c.as_slice-lines.ensures.value (rw (c.if-branch.true) at c.in_ok-has_witness.ensures)

pub returns-clause-refused : goal.returns-clause-refused
returns-clause-refused g c = inr (inr (
  c.in-Some.since,
  refl,
  found_old c.args.note.now _ c.args.policy.now.since c.in-Some.since c.in-Ok.view.text.now c.in-Ok.view.signatures.items c.as_slice-lines.result.now
      c.in-Some.is c.in-Ok.ensures c.as_slice-lines.ensures.value (rw (c.if-branch.false) at c.in_ok-has_witness.ensures),
))
