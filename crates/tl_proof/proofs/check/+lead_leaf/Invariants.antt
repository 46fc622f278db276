use Rattle.std.proofs.Common.{length}
use Rattle.tl_proof.proofs.check.+lead_leaf.Given as goal

abbrev pub decreases-lead_leaf : goal.decreases-lead_leaf
decreases-lead_leaf g l = length l.proof.now
