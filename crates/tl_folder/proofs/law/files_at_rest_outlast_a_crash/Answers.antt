use Rattle.tl_folder.proofs.Settles.{rest_leaves}
use Rattle.tl_folder.proofs.law.files_at_rest_outlast_a_crash.Goals as goal

pub returns : goal.returns
returns c = λ disk path bytes left rest may. rest_leaves (disk path) bytes rest left may
