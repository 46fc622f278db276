use Rattle.std.proofs.Common.{length}
use Rattle.tl_command.proofs.Counting.{IsCounted}
use Rattle.tl_command.proofs.text.count_lines.Given as goal

-- the lines before the rest are counted
abbrev pub invariant-loop-rest : goal.invariant-loop-rest
invariant-loop-rest l = IsCounted l.text l.rest l.count

abbrev pub decreases-loop-rest : goal.decreases-loop-rest
decreases-loop-rest l = length l.rest
