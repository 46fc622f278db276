use Rattle.std.proofs.Common.{length}
use Rattle.tl_s3.proofs.form.+ascend.Given as goal

abbrev pub decreases-ascend : goal.decreases-ascend
decreases-ascend l = length l.fields.now
