use Rattle.std.proofs.Common.{arith}
use Rattle.std.proofs.lemmas.Grind.{common_steps}
use Rattle.tl_folder.proofs.shelf.FolderShelf.open.Goals as goal

pub returns-clause-events : goal.returns-clause-events
returns-clause-events g c = grind (arith, common_steps)

pub returns-clause-made : goal.returns-clause-made
returns-clause-made g c = grind (arith, common_steps)

pub returns-clause-moves : goal.returns-clause-moves
returns-clause-moves g c = grind (arith, common_steps)

pub returns-clause-place : goal.returns-clause-place
returns-clause-place g c = grind (arith, common_steps)

pub returns-clause-unfailed : goal.returns-clause-unfailed
returns-clause-unfailed g c = grind (arith, common_steps)

pub returns-clause-unmarked : goal.returns-clause-unmarked
returns-clause-unmarked g c = grind (arith, common_steps)

pub returns-in_err-files-clause-events : goal.returns-in_err-files-clause-events
returns-in_err-files-clause-events g c = grind (arith, common_steps)

pub returns-in_err-files-clause-made : goal.returns-in_err-files-clause-made
returns-in_err-files-clause-made g c = grind (arith, common_steps)

pub returns-in_err-files-clause-moves : goal.returns-in_err-files-clause-moves
returns-in_err-files-clause-moves g c = grind (arith, common_steps)

pub returns-in_err-files-clause-place : goal.returns-in_err-files-clause-place
returns-in_err-files-clause-place g c = grind (arith, common_steps)

pub returns-in_err-files-clause-unfailed : goal.returns-in_err-files-clause-unfailed
returns-in_err-files-clause-unfailed g c = grind (arith, common_steps)

pub returns-in_err-files-clause-unmarked : goal.returns-in_err-files-clause-unmarked
returns-in_err-files-clause-unmarked g c = grind (arith, common_steps)
