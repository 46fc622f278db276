use Rattle.std.proofs.Common.{length}
use Rattle.tl_records.proofs.checking.+lead_four.Given as goal

abbrev pub decreases-lead_four : goal.decreases-lead_four
decreases-lead_four g l = length l.a.now
