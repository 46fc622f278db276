use Rattle.tl_folder.proofs.Asides.{replaced_rests}
use Rattle.tl_folder.proofs.law.replaced_files_are_at_rest.Goals as goal

pub returns : goal.returns
returns c = replaced_rests
