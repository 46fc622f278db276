use Rattle.std.proofs.Common.{arith}
use Rattle.std.proofs.lemmas.Grind.{common_steps}
use Rattle.tl_publisher.proofs.opening.first_wrong.Goals as goal

pub returns : goal.returns
returns c = grind (arith, common_steps)

pub returns-then-readers-lt1 : goal.returns-then-readers-lt1
returns-then-readers-lt1 c = grind (arith, common_steps)
