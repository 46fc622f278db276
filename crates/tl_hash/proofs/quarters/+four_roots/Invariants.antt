use Rattle.std.proofs.Common.{length}
use Rattle.tl_hash.proofs.quarters.+four_roots.Given as goal

abbrev pub decreases-four_roots : goal.decreases-four_roots
decreases-four_roots g l = length l.a.now
