use Rattle.std.proofs.Common.{arith}
use Rattle.std.proofs.lemmas.Grind.{common_steps}
use Rattle.tl_tile.proofs.tile.join.Goals as goal

pub loop-hash-preserved : goal.loop-hash-preserved
loop-hash-preserved g c = grind (arith, common_steps)

pub returns : goal.returns
returns g c = grind (arith, common_steps)
