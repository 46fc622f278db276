use Rattle.std.proofs.Common.{length}
use Rattle.tl_fetch.proofs.by_policy.+twin_of.Given as goal

abbrev pub decreases-twin_of : goal.decreases-twin_of
decreases-twin_of l = length l.logs.now
