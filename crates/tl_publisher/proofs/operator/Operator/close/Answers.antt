use Rattle.std.proofs.Common.{arith}
use Rattle.std.proofs.lemmas.Grind.{common_steps}
use Rattle.tl_publisher.proofs.Operations.{closed_of}
use Rattle.tl_publisher.proofs.operator.Operator.close.Goals as goal

pub returns-in-Ok-clause-closed : goal.returns-in-Ok-clause-closed
returns-in-Ok-clause-closed g c = closed_of _ _ _ c.in-Ok.ensures.complete.0 c.in-Ok.ensures.board c.in-Ok.ensures.complete.1 c.in-Ok.ensures.merge c.requires

pub returns-in-Err-clause-back : goal.returns-in-Err-clause-back
returns-in-Err-clause-back g c = grind (arith, common_steps)
