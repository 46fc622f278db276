use Rattle.std.proofs.Common.{arith}
use Rattle.std.proofs.lemmas.Grind.{common_steps}
use Rattle.tl_source.proofs.full.FullSourceResourceSource.get.Goals as goal

pub returns-in-Err-OutOfMemory-clause-lacks : goal.returns-in-Err-OutOfMemory-clause-lacks
returns-in-Err-OutOfMemory-clause-lacks g c = grind (arith, common_steps)
