use Rattle.std.proofs.Common.{length}
use Rattle.tl_policy.proofs.trust.+is_signed.Given as goal

abbrev pub decreases-is_signed : goal.decreases-is_signed
decreases-is_signed g l = length l.lines.now
