use Rattle.tl_folder.proofs.ShelfDisk.{stage_spares}
use Rattle.tl_folder.proofs.shelf_law.staging_spares_each_resource.Goals as goal

pub returns : goal.returns
returns c = stage_spares
