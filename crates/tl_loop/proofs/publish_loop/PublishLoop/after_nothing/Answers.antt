use Rattle.std.proofs.Common.{arith}
use Rattle.std.proofs.lemmas.Grind.{common_steps}
use Rattle.tl_loop.proofs.publish_loop.PublishLoop.after_nothing.Goals as goal

pub returns-in-Publishing-true : goal.returns-in-Publishing-true
returns-in-Publishing-true g c = grind (arith, common_steps)
