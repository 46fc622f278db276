use Rattle.std.proofs.Common.{length}
use Rattle.tl_http.proofs.fields.+length_in.Given as goal

abbrev pub decreases-length_in : goal.decreases-length_in
decreases-length_in l = length l.headers.now
