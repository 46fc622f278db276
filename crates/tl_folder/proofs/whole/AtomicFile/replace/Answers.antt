use Rattle.std.proofs.Common.{arith}
use Rattle.std.proofs.lemmas.Grind.{common_steps}
use Rattle.tl_folder.proofs.whole.AtomicFile.replace.Goals as goal

pub returns-clause-path : goal.returns-clause-path
returns-clause-path g c = grind (arith, common_steps)

pub returns-clause-replaced : goal.returns-clause-replaced
returns-clause-replaced g c = grind (arith, common_steps)
