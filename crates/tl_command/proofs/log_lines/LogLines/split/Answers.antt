use Rattle.std.proofs.Common.{arith}
use Rattle.std.proofs.lemmas.Grind.{common_steps}
use Rattle.tl_command.proofs.log_lines.LogLines.split.Goals as goal

pub invariant_of-first : goal.invariant_of-first
invariant_of-first c = grind (arith, common_steps)

pub invariant_of-others : goal.invariant_of-others
invariant_of-others c = grind (arith, common_steps)
