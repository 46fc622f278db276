use Rattle.tl_folder.proofs.Appends.{opened_rests}
use Rattle.tl_folder.proofs.law.opened_lines_are_at_rest.Goals as goal

pub returns : goal.returns
returns c = opened_rests
