use Rattle.std.proofs.Common.{length}
use Rattle.tl_note.proofs.verify.+is_accepted.Given as goal

abbrev pub decreases-is_accepted : goal.decreases-is_accepted
decreases-is_accepted g l = length l.verifiers.now
