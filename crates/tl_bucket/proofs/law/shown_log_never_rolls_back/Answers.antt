use Rattle.tl_bucket.proofs.Shown.{never_rolled_back}
use Rattle.tl_bucket.proofs.law.shown_log_never_rolls_back.Goals as goal

pub returns : goal.returns
returns c = never_rolled_back
