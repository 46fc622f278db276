use Rattle.std.proofs.lemmas.List.Elements.{Contains-get_or}
use Rattle.tl_bucket.proofs.Shown.{is_complete}
use Rattle.tl_bucket.proofs.Grown.{whole_stays}
use Rattle.tl_bucket.proofs.Sound.{sound_led, grows_led}
use Rattle.tl_bucket.proofs.law.shown_log_is_complete.Goals as goal

pub returns-clause-sent : goal.returns-clause-sent
returns-clause-sent c = λ setting w leads q has. (sound_led setting w leads).was_sent q has

pub returns-clause-last : goal.returns-clause-last
returns-clause-last c = λ setting w leads. (sound_led setting w leads).last

pub returns-clause-complete : goal.returns-clause-complete
returns-clause-complete c = λ setting w leads. is_complete setting w (sound_led setting w leads)

pub returns-clause-each : goal.returns-clause-each
returns-clause-each c = λ setting w later leads more k d less.
    whole_stays setting w later _ (grows_led setting w later leads more) ((sound_led setting w leads).shown _ (Contains-get_or w.shown k d less))
