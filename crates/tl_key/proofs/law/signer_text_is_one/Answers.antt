use Rattle.tl_key.proofs.KeyTexts.{signer_law}
use Rattle.tl_key.proofs.law.signer_text_is_one.Goals as goal

pub returns : goal.returns
returns c = signer_law
