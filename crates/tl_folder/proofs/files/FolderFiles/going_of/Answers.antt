use Rattle.std.proofs.Common.{arith}
use Rattle.std.proofs.lemmas.Grind.{common_steps}
use Rattle.tl_folder.proofs.files.FolderFiles.going_of.Goals as goal

pub returns-clause-partials : goal.returns-clause-partials
returns-clause-partials g c = grind (arith, common_steps)

pub returns-clause-removed : goal.returns-clause-removed
returns-clause-removed g c = grind (arith, common_steps)
