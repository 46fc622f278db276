use Rattle.std.proofs.Common.{length}
use Rattle.tl_offline.proofs.CutLemmas.{HasFound}
use Rattle.tl_offline.proofs.parsing.cut_hashes.Given as goal

abbrev pub invariant-loop-left : goal.invariant-loop-left
invariant-loop-left l = HasFound l.text l.found l.count l.left

abbrev pub decreases-loop-left : goal.decreases-loop-left
decreases-loop-left l = length l.left
