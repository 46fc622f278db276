use Rattle.std.proofs.Common.{◌∙◌, refl, arith}
use Rattle.tl_ledger.proofs.Spending.{index_spent, level_on, sheds_none, sheds_on}
use Rattle.tl_ledger.proofs.spent.remove_level.Goals as goal

pub loop-index-init : goal.loop-index-init
loop-index-init g c = record {
  sheds = λ size within. sheds_none size (g.S.Shelf.kept c.args.shelf.now) (g.S.Shelf.trace c.args.shelf.now);
  gone = λ i low high. absurd (omega (arith, low, high));
  unfailed = refl;
  place = refl;
  mark = refl;
}

pub returns-in_err-remove_at-clause-sheds : goal.returns-in_err-remove_at-clause-sheds
returns-in_err-remove_at-clause-sheds g c = λ size within.
    sheds_on size (g.S.Shelf.kept c.args.shelf.now) (g.S.Shelf.kept c.loop-index.shelf) (g.S.Shelf.kept c.remove_at.new.shelf) (g.S.Shelf.trace c.args.shelf.now) (g.S.Shelf.trace c.loop-index.shelf) (g.S.Shelf.trace c.remove_at.new.shelf)
    (c.loop-index.invariant.sheds size within) (c.remove_at.ensures.sheds size (index_spent c.args.level _ c.args.has size (omega (arith, c.loop-index-test.true)) within))

pub loop-index-preserved : goal.loop-index-preserved
loop-index-preserved g c = record {
  sheds = λ size within.
      sheds_on size (g.S.Shelf.kept c.args.shelf.now) (g.S.Shelf.kept c.loop-index.shelf) (g.S.Shelf.kept c.remove_at.new.shelf) (g.S.Shelf.trace c.args.shelf.now) (g.S.Shelf.trace c.loop-index.shelf) (g.S.Shelf.trace c.remove_at.new.shelf)
      (c.loop-index.invariant.sheds size within) (c.remove_at.ensures.sheds size (index_spent c.args.level _ c.args.has size (omega (arith, c.loop-index-test.true)) within));
  gone = level_on c.args.level c.args.had c.loop-index.index (g.S.Shelf.kept c.loop-index.shelf) (g.S.Shelf.kept c.remove_at.new.shelf) (g.S.Shelf.trace c.loop-index.shelf) (g.S.Shelf.trace c.remove_at.new.shelf)
      c.remove_at.ensures.sheds c.loop-index.invariant.gone c.in_ok-remove_at.ensures.gone;
  unfailed = c.in_ok-remove_at.ensures.unfailed ∙ c.loop-index.invariant.unfailed;
  place = c.remove_at.ensures.place ∙ c.loop-index.invariant.place;
  mark = c.remove_at.ensures.mark ∙ c.loop-index.invariant.mark;
}

pub returns-clause-gone : goal.returns-clause-gone
returns-clause-gone g c = λ index low high far. c.loop-index.invariant.gone index low (omega (arith, high, far, c.loop-index-test.false))
