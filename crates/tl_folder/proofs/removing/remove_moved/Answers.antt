use Rattle.std.proofs.Common.{arith}
use Rattle.std.proofs.lemmas.Grind.{common_steps}
use Rattle.tl_folder.proofs.removing.remove_moved.Goals as goal

pub returns-else-branch-clause-moved : goal.returns-else-branch-clause-moved
returns-else-branch-clause-moved g c = grind (arith, common_steps)

pub returns-in_err-was_there-clause-failed : goal.returns-in_err-was_there-clause-failed
returns-in_err-was_there-clause-failed g c = grind (arith, common_steps)

pub returns-then-branch-clause-failed : goal.returns-then-branch-clause-failed
returns-then-branch-clause-failed g c = grind (arith, common_steps)

pub returns-then-branch-clause-moved : goal.returns-then-branch-clause-moved
returns-then-branch-clause-moved g c = grind (arith, common_steps)
