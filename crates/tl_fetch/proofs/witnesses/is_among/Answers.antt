use Rattle.std.proofs.Common.{arith}
use Rattle.std.proofs.lemmas.Grind.{common_steps}
use Rattle.tl_fetch.proofs.witnesses.is_among.Goals as goal

pub loop-one-preserved : goal.loop-one-preserved
loop-one-preserved g c = grind (arith, common_steps)

pub returns : goal.returns
returns g c = grind (arith, common_steps)
