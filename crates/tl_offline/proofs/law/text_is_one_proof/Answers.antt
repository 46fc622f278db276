use Rattle.tl_offline.proofs.OneText.{one_proof}
use Rattle.tl_offline.proofs.law.text_is_one_proof.Goals as goal

pub returns : goal.returns
returns c = one_proof
