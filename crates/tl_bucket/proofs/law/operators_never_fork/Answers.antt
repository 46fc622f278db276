use Rattle.tl_bucket.specs.Bucket.{put_checkpoint}
use Rattle.tl_bucket.proofs.Commits.{consistent}
use Rattle.tl_bucket.proofs.Sound.{sound_led}
use Rattle.tl_bucket.proofs.law.operators_never_fork.Goals as goal

pub returns-clause-sent : goal.returns-clause-sent
returns-clause-sent c = λ setting w leads old older p q has had.
    let sound = sound_led setting w leads in
    consistent w.store p.entries q.entries (sound.sent (put_checkpoint old p) has).0.committed (sound.sent (put_checkpoint older q) had).0.committed

pub returns-clause-shown : goal.returns-clause-shown
returns-clause-shown c = λ setting w leads p q has had.
    let sound = sound_led setting w leads in
    consistent w.store p.entries q.entries (sound.shown p has).committed (sound.shown q had).committed
