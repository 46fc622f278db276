use Rattle.std.proofs.Common.{◌≡◌, ℕ, ◌+◌, ◌*◌, ◌^◌, ◌<◌, ◌≤◌}
use Rattle.tl_ledger.specs.Inner.Spending.{LacksAt, Sheds}
use Rattle.tl_ledger.proofs.spent.remove_level.Given as goal

abbrev pub invariant-loop-index : goal.invariant-loop-index
invariant-loop-index g l = record {
  sheds : (size : ℕ) → l.has * 256 ^ (l.level + 1) ≤ size → Sheds size (g.S.Shelf.kept l.fn.shelf) (g.S.Shelf.kept l.shelf) (g.S.Shelf.trace l.fn.shelf) (g.S.Shelf.trace l.shelf);
  gone : (i : ℕ) → l.had ≤ i + 1 → i < l.index → LacksAt l.level i (g.S.Shelf.kept l.shelf).held;
  unfailed : g.S.Shelf.faults l.shelf ≡ g.S.Shelf.faults l.fn.shelf;
  place : g.S.Shelf.place l.shelf ≡ g.S.Shelf.place l.fn.shelf;
  mark : g.S.Shelf.published l.shelf ≡ g.S.Shelf.published l.fn.shelf;
}
