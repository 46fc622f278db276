use Rattle.std.proofs.Common.{arith}
use Rattle.std.proofs.lemmas.Grind.{common_steps}
use Rattle.tl_checkpoint.proofs.writing.push_lines.Goals as goal

pub loop-text-preserved : goal.loop-text-preserved
loop-text-preserved g c = grind (arith, common_steps)

pub returns : goal.returns
returns g c = grind (arith, common_steps)
