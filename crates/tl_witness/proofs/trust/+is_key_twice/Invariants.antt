use Rattle.std.proofs.Common.{length}
use Rattle.tl_witness.proofs.trust.+is_key_twice.Given as goal

abbrev pub decreases-is_key_twice : goal.decreases-is_key_twice
decreases-is_key_twice g l = length l.verifiers.now
