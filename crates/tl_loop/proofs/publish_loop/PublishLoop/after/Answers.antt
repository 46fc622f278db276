use Rattle.std.proofs.Common.{arith}
use Rattle.std.proofs.lemmas.Grind.{common_steps}
use Rattle.tl_loop.proofs.publish_loop.PublishLoop.after.Goals as goal

pub returns-in-Due : goal.returns-in-Due
returns-in-Due g c = grind (arith, common_steps)

pub returns-in-InputEnded : goal.returns-in-InputEnded
returns-in-InputEnded g c = grind (arith, common_steps)

pub returns-in-Stopped : goal.returns-in-Stopped
returns-in-Stopped g c = grind (arith, common_steps)

pub returns-in-TooLong : goal.returns-in-TooLong
returns-in-TooLong g c = grind (arith, common_steps)
