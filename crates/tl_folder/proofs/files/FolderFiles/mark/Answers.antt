use Rattle.std.proofs.Common.{arith}
use Rattle.std.proofs.lemmas.Grind.{common_steps}
use Rattle.tl_folder.proofs.files.FolderFiles.mark.Goals as goal

pub returns-clause-calls : goal.returns-clause-calls
returns-clause-calls g c = grind (arith, common_steps)

pub returns-clause-root : goal.returns-clause-root
returns-clause-root g c = grind (arith, common_steps)

pub returns-clause-staged : goal.returns-clause-staged
returns-clause-staged g c = grind (arith, common_steps)

pub returns-in_err-text-clause-root : goal.returns-in_err-text-clause-root
returns-in_err-text-clause-root g c = grind (arith, common_steps)

pub returns-in_err-text-clause-staged : goal.returns-in_err-text-clause-staged
returns-in_err-text-clause-staged g c = grind (arith, common_steps)
