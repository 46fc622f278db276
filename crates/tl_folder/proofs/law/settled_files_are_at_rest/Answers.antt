use Rattle.tl_folder.proofs.Settles.{settled_rests}
use Rattle.tl_folder.proofs.law.settled_files_are_at_rest.Goals as goal

pub returns : goal.returns
returns c = settled_rests
