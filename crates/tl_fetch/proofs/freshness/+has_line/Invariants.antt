use Rattle.std.proofs.Common.{length}
use Rattle.tl_fetch.proofs.freshness.+has_line.Given as goal

abbrev pub decreases-has_line : goal.decreases-has_line
decreases-has_line l = length l.lines.now
