use Rattle.tl_bucket.specs.Inner.Searches.{AreBounds}
use Rattle.tl_bucket.proofs.opening.last_commit.Given as goal

-- the last commit lies between these
abbrev pub invariant-loop : goal.invariant-loop
invariant-loop g l = AreBounds l.client l.low l.high
