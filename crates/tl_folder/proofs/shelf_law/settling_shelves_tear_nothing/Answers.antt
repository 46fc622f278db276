use Rattle.tl_folder.proofs.ShelfDisk.{settling_reflects}
use Rattle.tl_folder.proofs.shelf_law.settling_shelves_tear_nothing.Goals as goal

pub returns : goal.returns
returns c = settling_reflects
