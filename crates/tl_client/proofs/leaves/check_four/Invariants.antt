use Rattle.std.proofs.Common.{◌+◌, map, vec_items}
use Rattle.sha2.specs.Sha256.{sha256}
use Rattle.tl_client.specs.Inner.Leaves.{HaveLeavesBetween}
use Rattle.tl_client.proofs.leaves.check_four.Given as goal

abbrev pub invariant-loop-j : goal.invariant-loop-j
invariant-loop-j g l = HaveLeavesBetween sha256 l.from (l.from + l.j) (map vec_items l.entries) l.leaves
