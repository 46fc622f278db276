use Rattle.std.proofs.Common.{length}
use Rattle.tl_s3.proofs.canonical.+push_names.Given as goal

abbrev pub decreases-push_names : goal.decreases-push_names
decreases-push_names g l = length l.fields.now
