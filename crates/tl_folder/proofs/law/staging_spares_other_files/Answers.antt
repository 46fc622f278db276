use Rattle.tl_folder.proofs.Asides.{aside_only}
use Rattle.tl_folder.proofs.law.staging_spares_other_files.Goals as goal

pub returns : goal.returns
returns c = λ disk now path other bytes calls apart aside becomes. aside_only path other bytes calls disk now apart aside becomes
