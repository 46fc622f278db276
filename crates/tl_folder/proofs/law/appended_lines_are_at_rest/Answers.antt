use Rattle.tl_folder.proofs.Appends.{appended_rests}
use Rattle.tl_folder.proofs.law.appended_lines_are_at_rest.Goals as goal

pub returns : goal.returns
returns c = appended_rests
