use Rattle.std.proofs.Common.{length}
use Rattle.tl_tile.proofs.four_runs.+fold_four.Given as goal

abbrev pub decreases-fold_four : goal.decreases-fold_four
decreases-fold_four g l = length l.a.now
