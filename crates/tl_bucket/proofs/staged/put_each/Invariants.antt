use Rattle.std.proofs.Common.{take}
use Rattle.std.specs.Prelude.{All}
use Rattle.tl_bucket.specs.Inner.Puts.{IsThere}
use Rattle.tl_bucket.proofs.staged.put_each.Given as goal

-- the first of them were put
abbrev pub invariant-loop-one : goal.invariant-loop-one
invariant-loop-one g l = All (IsThere l.client) (take l.one-index l.staged)
