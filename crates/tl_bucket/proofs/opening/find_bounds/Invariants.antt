use Rattle.std.proofs.Common.{◌≡◌, ◌⊎◌}
use Rattle.tl_bucket.specs.Opened.{HasCommit}
use Rattle.tl_bucket.proofs.opening.find_bounds.Given as goal

-- the commit with the lower number was there, or it is 0
abbrev pub invariant-loop : goal.invariant-loop
invariant-loop g l = (l.low ≡ 0) ⊎ HasCommit l.client l.low
