use Rattle.std.proofs.Common.{length}
use Rattle.tl_proof.proofs.check.+lead_roots.Given as goal

abbrev pub decreases-lead_roots : goal.decreases-lead_roots
decreases-lead_roots g l = length l.proof.now
