use Rattle.std.proofs.Common.{◌-◌, length, map, vec_items}
use Rattle.sha2.specs.Sha256.{sha256}
use Rattle.tl_client.specs.Inner.Leaves.{HaveLeavesBetween}
use Rattle.tl_client.proofs.leaves.check_leaves.Given as goal

abbrev pub invariant-loop-done : goal.invariant-loop-done
invariant-loop-done g l = HaveLeavesBetween sha256 0 l.done (map vec_items l.entries) l.leaves

abbrev pub decreases-loop-done : goal.decreases-loop-done
decreases-loop-done g l = length l.entries - l.done
