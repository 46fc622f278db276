use Rattle.std.proofs.Common.{length}
use Rattle.tl_fetch.proofs.freshness.+has_witness.Given as goal

abbrev pub decreases-has_witness : goal.decreases-has_witness
decreases-has_witness l = length l.witnesses.now
