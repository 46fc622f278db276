use Rattle.std.proofs.Common.{arith}
use Rattle.std.proofs.lemmas.Grind.{common_steps}
use Rattle.tl_publisher.proofs.growth.partial_tiles.Goals as goal

pub loop-level-preserved : goal.loop-level-preserved
loop-level-preserved g c = grind (arith, common_steps)
