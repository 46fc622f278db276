use Rattle.std.proofs.Common.{length}
use Rattle.tl_policy.proofs.cosigned.+first_time.Given as goal

abbrev pub decreases-first_time : goal.decreases-first_time
decreases-first_time g l = length l.lines.now
