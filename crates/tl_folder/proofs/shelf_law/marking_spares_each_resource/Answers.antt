use Rattle.tl_folder.proofs.Marks.{mark_spares}
use Rattle.tl_folder.proofs.shelf_law.marking_spares_each_resource.Goals as goal

pub returns : goal.returns
returns c = mark_spares
