use Rattle.std.proofs.Common.{arith}
use Rattle.std.proofs.lemmas.Grind.{common_steps}
use Rattle.tl_publisher.proofs.run.Run.close.Goals as goal

pub invariant_of-run : goal.invariant_of-run
invariant_of-run g c = grind (arith, common_steps)
