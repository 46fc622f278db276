use Rattle.std.proofs.Common.{length}
use Rattle.tl_policy.proofs.WordLaws.{HasWords}
use Rattle.tl_policy.proofs.words.next_word.Given as goal

-- what is left has the words
abbrev pub invariant-loop-left : goal.invariant-loop-left
invariant-loop-left l = HasWords l.line l.left

abbrev pub decreases-loop-left : goal.decreases-loop-left
decreases-loop-left l = length l.left
