use Rattle.tl_folder.proofs.Removals.{removal_is_gentle}
use Rattle.tl_folder.proofs.shelf_law.removing_tears_nothing.Goals as goal

pub returns : goal.returns
returns c = removal_is_gentle
