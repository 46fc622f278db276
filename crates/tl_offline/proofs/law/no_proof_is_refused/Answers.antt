use Rattle.tl_offline.proofs.OneText.{refuses_none}
use Rattle.tl_offline.proofs.law.no_proof_is_refused.Goals as goal

pub returns : goal.returns
returns c = refuses_none
