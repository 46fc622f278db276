use Rattle.std.proofs.Common.{◌-◌}
use Rattle.tl_proof.proofs.plan.+push_path.Given as goal

abbrev pub decreases-push_path : goal.decreases-push_path
decreases-push_path g l = l.end - l.start
