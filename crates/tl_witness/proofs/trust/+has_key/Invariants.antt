use Rattle.std.proofs.Common.{length}
use Rattle.tl_witness.proofs.trust.+has_key.Given as goal

abbrev pub decreases-has_key : goal.decreases-has_key
decreases-has_key g l = length l.verifiers.now
