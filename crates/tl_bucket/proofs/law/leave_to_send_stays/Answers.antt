use Rattle.tl_bucket.proofs.Grown.{may_send_later}
use Rattle.tl_bucket.proofs.Sound.{grows_led}
use Rattle.tl_bucket.proofs.law.leave_to_send_stays.Goals as goal

pub returns : goal.returns
returns c = λ setting w later leads more request may. may_send_later setting w later (grows_led setting w later leads more) request may
