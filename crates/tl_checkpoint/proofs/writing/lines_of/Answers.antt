use Rattle.std.proofs.Common.{arith}
use Rattle.std.proofs.lemmas.Grind.{common_steps}
use Rattle.tl_checkpoint.proofs.writing.lines_of.Goals as goal

pub returns-clause-root : goal.returns-clause-root
returns-clause-root g c = grind (arith, common_steps)

pub returns-clause-text : goal.returns-clause-text
returns-clause-text g c = grind (arith, common_steps)
