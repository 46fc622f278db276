use Rattle.tl_folder.proofs.Settles.{settling_spares_others}
use Rattle.tl_folder.proofs.law.settling_spares_other_files.Goals as goal

pub returns : goal.returns
returns c = settling_spares_others
