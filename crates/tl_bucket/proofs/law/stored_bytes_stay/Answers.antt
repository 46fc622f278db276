use Rattle.tl_bucket.proofs.Sound.{grows_led}
use Rattle.tl_bucket.proofs.law.stored_bytes_stay.Goals as goal

pub returns : goal.returns
returns c = λ setting w later leads more r bytes other is. (grows_led setting w later leads more).held r bytes other is
