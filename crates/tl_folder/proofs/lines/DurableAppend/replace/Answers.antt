use Rattle.std.proofs.Common.{arith}
use Rattle.std.proofs.lemmas.Grind.{common_steps}
use Rattle.tl_folder.proofs.lines.DurableAppend.replace.Goals as goal

pub returns-clause-calls : goal.returns-clause-calls
returns-clause-calls g c = grind (arith, common_steps)

pub returns-clause-path : goal.returns-clause-path
returns-clause-path g c = grind (arith, common_steps)

pub returns-clause-written : goal.returns-clause-written
returns-clause-written g c = grind (arith, common_steps)
