use Rattle.tl_folder.proofs.Removals.{removed_stays_away}
use Rattle.tl_folder.proofs.shelf_law.removed_partials_stay_away.Goals as goal

pub returns : goal.returns
returns c = removed_stays_away
