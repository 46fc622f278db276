use Rattle.tl_folder.proofs.Removals.{removing_reflects}
use Rattle.tl_folder.proofs.shelf_law.removing_shelves_tear_nothing.Goals as goal

pub returns : goal.returns
returns c = removing_reflects
