use Rattle.tl_folder.proofs.Settles.{settling_is_gentle}
use Rattle.tl_folder.proofs.law.settling_tears_no_file.Goals as goal

pub returns : goal.returns
returns c = settling_is_gentle
