use Rattle.std.proofs.Common.{◌+◌, ◌*◌, ◌/◌, ◌^◌, ◌∙◌, arith}
use Rattle.tl_ledger.specs.Inner.Spending.{Sheds}
use Rattle.tl_ledger.proofs.Spending.{lacks_spent, level_gone, level_sheds, levels_on, span_on, span_small, spent_kept, spent_safe}
use Rattle.tl_ledger.proofs.spent.remove_spent.Goals as goal

pub overflow_mul-span : goal.overflow_mul-span
overflow_mul-span g c = let small = span_small c.loop-level.level c.loop-level.span (omega (arith, c.loop-level-test.true)) c.loop-level.invariant.span in omega (arith, small.1)

pub nonzero_div-from : goal.nonzero_div-from
nonzero_div-from g c = let small = span_small c.loop-level.level c.loop-level.span (omega (arith, c.loop-level-test.true)) c.loop-level.invariant.span in omega (arith, small.0)

pub nonzero_div-size : goal.nonzero_div-size
nonzero_div-size g c = let small = span_small c.loop-level.level c.loop-level.span (omega (arith, c.loop-level-test.true)) c.loop-level.invariant.span in omega (arith, small.0)

pub returns-in_err-remove_level-clause-kept : goal.returns-in_err-remove_level-clause-kept
returns-in_err-remove_level-clause-kept g c = λ history log ledger was shown.
    let all : Sheds c.args.size (g.S.Shelf.kept c.args.shelf.now) (g.S.Shelf.kept c.remove_level.new.shelf) (g.S.Shelf.trace c.args.shelf.now) (g.S.Shelf.trace c.remove_level.new.shelf) =
    level_sheds c.loop-level.level c.loop-level.span c.args.size _ (g.S.Shelf.kept c.loop-level.shelf) _ _ (g.S.Shelf.trace c.loop-level.shelf) _ c.loop-level.invariant.span c.loop-level.invariant.sheds c.remove_level.ensures.sheds in
    spent_kept history log (g.S.Shelf.kept c.args.shelf.now) ledger was c.args.size shown (g.S.Shelf.kept c.remove_level.new.shelf) all.part

pub returns-in_err-remove_level-clause-safe : goal.returns-in_err-remove_level-clause-safe
returns-in_err-remove_level-clause-safe g c = λ history log ledger was shown.
    spent_safe history log (g.S.Shelf.kept c.args.shelf.now) ledger was c.args.size shown (g.S.Shelf.kept c.remove_level.new.shelf) (g.S.Shelf.trace c.args.shelf.now) (g.S.Shelf.trace c.remove_level.new.shelf)
    (level_sheds c.loop-level.level c.loop-level.span c.args.size _ (g.S.Shelf.kept c.loop-level.shelf) _ _ (g.S.Shelf.trace c.loop-level.shelf) _ c.loop-level.invariant.span c.loop-level.invariant.sheds c.remove_level.ensures.sheds)

pub returns-in_err-remove_level-clause-spent : goal.returns-in_err-remove_level-clause-spent
returns-in_err-remove_level-clause-spent g c =
    let all : Sheds c.args.size (g.S.Shelf.kept c.args.shelf.now) (g.S.Shelf.kept c.remove_level.new.shelf) (g.S.Shelf.trace c.args.shelf.now) (g.S.Shelf.trace c.remove_level.new.shelf) =
    level_sheds c.loop-level.level c.loop-level.span c.args.size _ (g.S.Shelf.kept c.loop-level.shelf) _ _ (g.S.Shelf.trace c.loop-level.shelf) _ c.loop-level.invariant.span c.loop-level.invariant.sheds c.remove_level.ensures.sheds in
    all.part

pub loop-level-preserved : goal.loop-level-preserved
loop-level-preserved g c = record {
  span = span_on c.loop-level.level c.loop-level.span c.loop-level.invariant.span;
  sheds = level_sheds c.loop-level.level c.loop-level.span c.args.size _ (g.S.Shelf.kept c.loop-level.shelf) _ _ (g.S.Shelf.trace c.loop-level.shelf) _ c.loop-level.invariant.span c.loop-level.invariant.sheds c.remove_level.ensures.sheds;
  gone = levels_on c.args.from c.args.size c.loop-level.level _ (g.S.Shelf.kept c.loop-level.shelf) (g.S.Shelf.kept c.remove_level.new.shelf) (c.remove_level.ensures.sheds (c.args.size / (c.loop-level.span * 256) * 256 ^ (c.loop-level.level + 1)) (omega arith)).part
      c.loop-level.invariant.gone
      (level_gone c.loop-level.level c.loop-level.span c.args.from c.args.size (g.S.Shelf.kept c.remove_level.new.shelf).held c.loop-level.invariant.span c.in_ok-remove_level.ensures.gone);
  unfailed = c.in_ok-remove_level.ensures.unfailed ∙ c.loop-level.invariant.unfailed;
  place = c.remove_level.ensures.place ∙ c.loop-level.invariant.place;
  mark = c.remove_level.ensures.mark ∙ c.loop-level.invariant.mark;
}

pub returns-clause-kept : goal.returns-clause-kept
returns-clause-kept g c = λ history log ledger was shown. spent_kept history log (g.S.Shelf.kept c.args.shelf.now) ledger was c.args.size shown (g.S.Shelf.kept c.loop-level.shelf) c.loop-level.invariant.sheds.part

pub returns-clause-safe : goal.returns-clause-safe
returns-clause-safe g c = λ history log ledger was shown.
    spent_safe history log (g.S.Shelf.kept c.args.shelf.now) ledger was c.args.size shown (g.S.Shelf.kept c.loop-level.shelf) (g.S.Shelf.trace c.args.shelf.now) (g.S.Shelf.trace c.loop-level.shelf) c.loop-level.invariant.sheds

pub returns-clause-gone : goal.returns-clause-gone
returns-clause-gone g c =
    lacks_spent c.args.from c.args.size (g.S.Shelf.kept c.loop-level.shelf).held c.requires.small (λ l low. c.loop-level.invariant.gone l (omega (arith, low, c.loop-level-test.false)))
