use Rattle.std.proofs.Common.{length}
use Rattle.tl_proof.proofs.audit.link_walk.+walk_check.Given as goal

abbrev pub decreases-walk_check : goal.decreases-walk_check
decreases-walk_check g l = length l.proof.now
