use Rattle.tl_key.proofs.KeyTexts.{verifier_law}
use Rattle.tl_key.proofs.law.verifier_text_is_one.Goals as goal

pub returns : goal.returns
returns c = verifier_law
