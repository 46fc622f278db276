use Rattle.std.proofs.Common.{arith}
use Rattle.std.proofs.lemmas.Grind.{common_steps}
use Rattle.tl_folder.proofs.look.is_plain.Goals as goal

pub returns-in-Err-2-clause-none : goal.returns-in-Err-2-clause-none
returns-in-Err-2-clause-none c = grind (arith, common_steps)

pub returns-in-Err-2-clause-plain : goal.returns-in-Err-2-clause-plain
returns-in-Err-2-clause-plain c = grind (arith, common_steps)

pub returns-in-Err-clause-other : goal.returns-in-Err-clause-other
returns-in-Err-clause-other c = grind (arith, common_steps)

pub returns-in-Err-clause-plain : goal.returns-in-Err-clause-plain
returns-in-Err-clause-plain c = grind (arith, common_steps)

pub returns-in-Ok-2-clause-none : goal.returns-in-Ok-2-clause-none
returns-in-Ok-2-clause-none c = grind (arith, common_steps)

pub returns-in-Ok-2-clause-plain : goal.returns-in-Ok-2-clause-plain
returns-in-Ok-2-clause-plain c = grind (arith, common_steps)

pub returns-in-Ok-clause-failed : goal.returns-in-Ok-clause-failed
returns-in-Ok-clause-failed c = grind (arith, common_steps)

pub returns-in-Ok-clause-none : goal.returns-in-Ok-clause-none
returns-in-Ok-clause-none c = grind (arith, common_steps)

pub returns-in-Ok-clause-other : goal.returns-in-Ok-clause-other
returns-in-Ok-clause-other c = grind (arith, common_steps)

pub returns-in-Ok-clause-plain : goal.returns-in-Ok-clause-plain
returns-in-Ok-clause-plain c = grind (arith, common_steps)
