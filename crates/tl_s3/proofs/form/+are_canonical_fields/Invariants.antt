use Rattle.std.proofs.Common.{length}
use Rattle.tl_s3.proofs.form.+are_canonical_fields.Given as goal

abbrev pub decreases-are_canonical_fields : goal.decreases-are_canonical_fields
decreases-are_canonical_fields l = length l.fields.now
