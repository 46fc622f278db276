use Rattle.std.proofs.Common.{length}
use Rattle.tl_http.proofs.persistence.+lacks_close.Given as goal

abbrev pub decreases-lacks_close : goal.decreases-lacks_close
decreases-lacks_close l = length l.headers.now
