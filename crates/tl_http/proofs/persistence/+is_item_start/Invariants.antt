use Rattle.std.proofs.Common.{length}
use Rattle.tl_http.proofs.persistence.+is_item_start.Given as goal

abbrev pub decreases-is_item_start : goal.decreases-is_item_start
decreases-is_item_start l = length l.text.now
