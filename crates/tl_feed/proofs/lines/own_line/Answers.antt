use Rattle.std.proofs.Common.{All, arith, inr, refl, subst, sym}
use Rattle.std.proofs.lemmas.Grind.{common_steps}
use Rattle.tl_note.specs.Note.{IsSignature}
use Rattle.tl_feed.proofs.Others.{cosigns, none_own, others_all, others_more}
use Rattle.tl_feed.proofs.lines.own_line.Goals as goal

pub loop-line-preserved : goal.loop-line-preserved
loop-line-preserved c =
    others_more c.args.text.now _ c.deref-line-items.result.now c.loop-line.line-index c.line-item.result (omega (arith, c.loop-line-test.true)) c.line-item.is
    (none_own _ c.args.text.now c.line-item.result c.args.keys.now (rw (c.if-branch.false) at c.in_ok-is_own.ensures)) c.loop-line.invariant

pub returns-clause-none : goal.returns-clause-none
returns-clause-none c = inr (
  refl,
  others_all c.args.text.now _ c.args.lines.now c.in-Ok.views.items c.deref-line-items.result.now c.loop-line.line-index c.deref-line-items.ensures.value c.in-Ok.ensures
      (omega (arith, c.loop-line-test.false)) c.loop-line.invariant,
)

pub returns-then-branch-clause-line : goal.returns-then-branch-clause-line
returns-then-branch-clause-line c =
    let each = subst (All IsSignature) (sym c.deref-line-items.ensures.value) c.in-Ok.ensures.each in
    let lawful = subst IsSignature (sym c.line-item.is) (each c.loop-line.line-index c.line-item.result (omega (arith, c.loop-line-test.true))) in
    cosigns _ c.args.text.now c.line-item.result c.args.keys.now _ lawful c.in_ok-text_of.ensures (rw (c.if-branch.true) at c.in_ok-is_own.ensures)

pub returns-clause-line : goal.returns-clause-line
returns-clause-line c = grind (arith, common_steps)

pub returns-in-Err-OutOfMemory-clause-none : goal.returns-in-Err-OutOfMemory-clause-none
returns-in-Err-OutOfMemory-clause-none c = grind (arith, common_steps)

pub returns-in_err-text_of-clause-none : goal.returns-in_err-text_of-clause-none
returns-in_err-text_of-clause-none c = grind (arith, common_steps)

pub returns-then-branch-clause-none : goal.returns-then-branch-clause-none
returns-then-branch-clause-none c = grind (arith, common_steps)
