use Rattle.tl_bucket.proofs.Going.{can_commit, can_show}
use Rattle.tl_bucket.proofs.Sound.{sound_led}
use Rattle.tl_bucket.proofs.law.log_can_go_on.Goals as goal

pub returns-clause-commit : goal.returns-clause-commit
returns-clause-commit c = λ setting w leads n entries batch is none. can_commit setting w n entries batch is none

pub returns-clause-show : goal.returns-clause-show
returns-clause-show c = λ setting w leads n q is none note. can_show setting w (sound_led setting w leads) n q is none note
