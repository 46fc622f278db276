use Rattle.std.proofs.Common.{length}
use Rattle.tl_note.proofs.verify.+is_known.Given as goal

abbrev pub decreases-is_known : goal.decreases-is_known
decreases-is_known g l = length l.verifiers.now
