use Rattle.std.proofs.Common.{arith}
use Rattle.std.proofs.lemmas.Grind.{common_steps}
use Rattle.tl_folder.proofs.cache.stays_under.Goals as goal

pub loop-above-preserved : goal.loop-above-preserved
loop-above-preserved g c = grind (arith, common_steps)
