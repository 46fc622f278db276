use Rattle.tl_folder.proofs.Removals.{removed_reflects}
use Rattle.tl_folder.proofs.shelf_law.removed_shelves_outlast_a_crash.Goals as goal

pub returns : goal.returns
returns c = removed_reflects
