use Rattle.std.proofs.Common.{length}
use Rattle.tl_feed.proofs.lines.+is_own.Given as goal

abbrev pub decreases-is_own : goal.decreases-is_own
decreases-is_own l = length l.keys.now
