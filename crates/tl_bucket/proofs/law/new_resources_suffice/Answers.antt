use Rattle.tl_bucket.proofs.Right.{suffices}
use Rattle.tl_bucket.proofs.Sound.{sound_led}
use Rattle.tl_bucket.proofs.law.new_resources_suffice.Goals as goal

pub returns : goal.returns
returns c = λ setting w leads. suffices setting w (sound_led setting w leads)
