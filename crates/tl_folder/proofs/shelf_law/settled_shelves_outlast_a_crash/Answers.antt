use Rattle.tl_folder.proofs.ShelfDisk.{settled_reflects}
use Rattle.tl_folder.proofs.shelf_law.settled_shelves_outlast_a_crash.Goals as goal

pub returns : goal.returns
returns c = settled_reflects
