use Rattle.std.proofs.Common.{arith}
use Rattle.std.proofs.lemmas.Grind.{common_steps}
use Rattle.tl_serve.proofs.running.Running.publish.Goals as goal

pub returns-in-Ok-true-clause-shown : goal.returns-in-Ok-true-clause-shown
returns-in-Ok-true-clause-shown g c = grind (arith, common_steps)
