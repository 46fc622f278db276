use Rattle.std.proofs.Common.{arith}
use Rattle.std.proofs.lemmas.Grind.{common_steps}
use Rattle.tl_lanes.proofs.block.with_mark.Goals as goal

pub returns-then-len-start-clause-mark : goal.returns-then-len-start-clause-mark
returns-then-len-start-clause-mark c = grind (arith, common_steps)

pub returns-then-len-start-clause-others : goal.returns-then-len-start-clause-others
returns-then-len-start-clause-others c = grind (arith, common_steps)
