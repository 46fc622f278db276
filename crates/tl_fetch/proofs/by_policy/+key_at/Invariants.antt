use Rattle.std.proofs.Common.{length}
use Rattle.tl_fetch.proofs.by_policy.+key_at.Given as goal

abbrev pub decreases-key_at : goal.decreases-key_at
decreases-key_at l = length l.logs.now
