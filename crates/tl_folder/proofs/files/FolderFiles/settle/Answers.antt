use Rattle.std.proofs.Common.{arith}
use Rattle.std.proofs.lemmas.Grind.{common_steps}
use Rattle.tl_folder.proofs.files.FolderFiles.settle.Goals as goal

pub returns-clause-calls : goal.returns-clause-calls
returns-clause-calls g c = grind (arith, common_steps)

pub returns-clause-unstaged : goal.returns-clause-unstaged
returns-clause-unstaged g c = grind (arith, common_steps)
