use Rattle.std.proofs.Common.{◌-◌}
use Rattle.tl_proof.proofs.plan.+push_proof.Given as goal

abbrev pub decreases-push_proof : goal.decreases-push_proof
decreases-push_proof g l = l.end - l.start
