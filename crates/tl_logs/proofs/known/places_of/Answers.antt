use Rattle.std.proofs.Common.{arith}
use Rattle.std.proofs.lemmas.Grind.{common_steps}
use Rattle.tl_logs.proofs.known.places_of.Goals as goal

pub loop-i-init : goal.loop-i-init
loop-i-init g c = grind (arith, common_steps)

pub loop-i-preserved : goal.loop-i-preserved
loop-i-preserved g c = grind (arith, common_steps)

pub returns-clause-places : goal.returns-clause-places
returns-clause-places g c = grind (arith, common_steps)
