use Rattle.std.proofs.Common.{◌≡◌, ℕ, ◌+◌, ◌/◌, ◌^◌, ◌<◌}
use Rattle.tl_ledger.specs.Inner.Spending.{LacksLevel, Sheds}
use Rattle.tl_ledger.proofs.spent.remove_spent.Given as goal

abbrev pub invariant-loop-level : goal.invariant-loop-level
invariant-loop-level g l = record {
  span : l.span ≡ 256 ^ l.level;
  sheds : Sheds l.size (g.S.Shelf.kept l.fn.shelf) (g.S.Shelf.kept l.shelf) (g.S.Shelf.trace l.fn.shelf) (g.S.Shelf.trace l.shelf);
  gone : (level : ℕ) → level < l.level → LacksLevel level (l.from / 256 ^ (level + 1)) (l.size / 256 ^ (level + 1)) (g.S.Shelf.kept l.shelf).held;
  unfailed : g.S.Shelf.faults l.shelf ≡ g.S.Shelf.faults l.fn.shelf;
  place : g.S.Shelf.place l.shelf ≡ g.S.Shelf.place l.fn.shelf;
  mark : g.S.Shelf.published l.shelf ≡ g.S.Shelf.published l.fn.shelf;
}
