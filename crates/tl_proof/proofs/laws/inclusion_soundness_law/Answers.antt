use Rattle.tl_proof.proofs.Soundness.{inclusion_shows_entry}
use Rattle.tl_proof.proofs.laws.inclusion_soundness_law.Goals as goal

pub returns : goal.returns
returns c = inclusion_shows_entry
