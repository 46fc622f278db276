use Rattle.std.proofs.Common.{length}
use Rattle.tl_tile.proofs.fold.+fold_run.Given as goal

abbrev pub decreases-fold_run : goal.decreases-fold_run
decreases-fold_run g l = length l.hashes.now
