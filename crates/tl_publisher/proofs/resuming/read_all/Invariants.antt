use Rattle.std.proofs.Common.{map, vec_items}
use Rattle.tl_publisher.proofs.Resumptions.{IsReadTo}
use Rattle.tl_publisher.proofs.resuming.read_all.Given as goal

-- the bundles before this position are read
abbrev pub invariant-loop-place : goal.invariant-loop-place
invariant-loop-place l = IsReadTo (map vec_items l.bundles) l.size l.place (map vec_items l.base.items)
