use Rattle.std.proofs.Common.{arith}
use Rattle.std.proofs.lemmas.Grind.{common_steps}
use Rattle.tl_loop.proofs.publish_loop.PublishLoop.after_done.Goals as goal

pub returns-in-Telling-true : goal.returns-in-Telling-true
returns-in-Telling-true g c = grind (arith, common_steps)

pub returns-in-Waiting : goal.returns-in-Waiting
returns-in-Waiting g c = grind (arith, common_steps)
