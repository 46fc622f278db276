use Rattle.std.proofs.Common.{refl}
use Rattle.tl_checkpoint.specs.Checkpoint.{checkpoint_text}
use Rattle.tl_checkpoint.proofs.NoteTexts.{can_be_signed}
use Rattle.tl_checkpoint.proofs.law.checkpoint_can_be_signed.Goals as goal

pub returns : goal.returns
returns c = λ h is utf8. can_be_signed (checkpoint_text h) h utf8 is refl
