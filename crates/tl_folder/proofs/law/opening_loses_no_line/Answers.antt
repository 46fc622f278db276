use Rattle.tl_folder.proofs.Appends.{open_is_gentle}
use Rattle.tl_folder.proofs.law.opening_loses_no_line.Goals as goal

pub returns : goal.returns
returns c = open_is_gentle
