use Rattle.std.proofs.Common.{length}
use Rattle.tl_http.proofs.field_values.+values_in.Given as goal

abbrev pub decreases-values_in : goal.decreases-values_in
decreases-values_in l = length l.headers.now
