use Rattle.std.proofs.Common.{arith}
use Rattle.std.proofs.lemmas.Grind.{common_steps}
use Rattle.tl_bucket.proofs.opening.halve.Goals as goal

pub returns-else-branch : goal.returns-else-branch
returns-else-branch g c = grind (arith, common_steps)

pub returns-then-branch : goal.returns-then-branch
returns-then-branch g c = grind (arith, common_steps)
