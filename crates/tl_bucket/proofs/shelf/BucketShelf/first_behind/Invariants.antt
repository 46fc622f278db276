use Rattle.std.specs.Prelude.{◌≤◌}
use Rattle.tl_bucket.proofs.Finishes.{AreBehind}
use Rattle.tl_bucket.proofs.shelf.BucketShelf.first_behind.Given as goal

-- the commits from this number on come after `size` or more entries
abbrev pub invariant-loop : goal.invariant-loop
invariant-loop g l = record {
  below : l.number ≤ l.fn.self.objects.claims.number;
  behind : AreBehind l.fn.self.objects.at l.size l.fn.self.objects.claims.number l.number;
}
