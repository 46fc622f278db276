use Rattle.tl_checkpoint.proofs.OneText.{one_checkpoint}
use Rattle.tl_checkpoint.proofs.law.text_is_one_checkpoint.Goals as goal

pub returns : goal.returns
returns c = one_checkpoint
