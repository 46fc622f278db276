use Rattle.tl_folder.proofs.Addings.{add_is_gentle}
use Rattle.tl_folder.proofs.law.adding_tears_no_file.Goals as goal

pub returns : goal.returns
returns c = add_is_gentle
