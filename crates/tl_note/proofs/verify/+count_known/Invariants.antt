use Rattle.std.proofs.Common.{length}
use Rattle.tl_note.proofs.verify.+count_known.Given as goal

abbrev pub decreases-count_known : goal.decreases-count_known
decreases-count_known g l = length l.verifiers.now
