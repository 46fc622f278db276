use Rattle.std.proofs.Common.{length}
use Rattle.tl_note.proofs.LineLemmas.{HasCounted}
use Rattle.tl_note.proofs.parse.count_lines.Given as goal

abbrev pub invariant-loop-left : goal.invariant-loop-left
invariant-loop-left l = HasCounted l.text l.count l.left

abbrev pub decreases-loop-left : goal.decreases-loop-left
decreases-loop-left l = length l.left
