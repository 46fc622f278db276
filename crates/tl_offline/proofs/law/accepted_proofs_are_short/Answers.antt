use Rattle.tl_offline.proofs.ShortPaths.{short_proof}
use Rattle.tl_offline.proofs.law.accepted_proofs_are_short.Goals as goal

pub returns : goal.returns
returns c = short_proof
