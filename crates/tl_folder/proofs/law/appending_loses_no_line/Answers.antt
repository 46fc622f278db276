use Rattle.tl_folder.proofs.Appends.{append_is_gentle}
use Rattle.tl_folder.proofs.law.appending_loses_no_line.Goals as goal

pub returns : goal.returns
returns c = append_is_gentle
