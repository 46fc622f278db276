use Rattle.tl_folder.proofs.Removals.{removal_spares}
use Rattle.tl_folder.proofs.shelf_law.removing_spares_other_resources.Goals as goal

pub returns : goal.returns
returns c = removal_spares
