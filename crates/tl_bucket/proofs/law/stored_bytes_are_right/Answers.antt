use Rattle.tl_bucket.proofs.Right.{is_right}
use Rattle.tl_bucket.proofs.Sound.{sound_led}
use Rattle.tl_bucket.proofs.law.stored_bytes_are_right.Goals as goal

pub returns : goal.returns
returns c = λ setting w leads. is_right setting w (sound_led setting w leads)
