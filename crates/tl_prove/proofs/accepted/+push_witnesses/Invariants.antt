use Rattle.std.proofs.Common.{length}
use Rattle.tl_prove.proofs.accepted.+push_witnesses.Given as goal

abbrev pub decreases-push_witnesses : goal.decreases-push_witnesses
decreases-push_witnesses g l = length l.witnesses.now
