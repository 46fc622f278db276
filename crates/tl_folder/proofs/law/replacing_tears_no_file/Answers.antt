use Rattle.tl_folder.proofs.Asides.{replace_is_gentle}
use Rattle.tl_folder.proofs.law.replacing_tears_no_file.Goals as goal

pub returns : goal.returns
returns c = replace_is_gentle
