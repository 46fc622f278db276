use Rattle.std.proofs.Common.{length}
use Rattle.tl_proof.proofs.audit.list_walk.+walk_lists.Given as goal

abbrev pub decreases-walk_lists : goal.decreases-walk_lists
decreases-walk_lists g l = length l.old.now
