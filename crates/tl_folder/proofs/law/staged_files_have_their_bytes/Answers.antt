use Rattle.tl_folder.proofs.Asides.{staged_there}
use Rattle.tl_folder.proofs.law.staged_files_have_their_bytes.Goals as goal

pub returns : goal.returns
returns c = λ disk now path bytes calls is becomes. staged_there path bytes calls disk now is becomes
