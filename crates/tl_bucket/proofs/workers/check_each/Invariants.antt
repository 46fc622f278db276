use Rattle.std.proofs.Common.{take}
use Rattle.std.specs.Prelude.{All}
use Rattle.tl_bucket.specs.Inner.Puts.{IsThere}
use Rattle.tl_bucket.proofs.workers.check_each.Given as goal

-- the first of them were put
abbrev pub invariant-loop-i : goal.invariant-loop-i
invariant-loop-i g l = All (IsThere l.client) (take l.i l.staged)
