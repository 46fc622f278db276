-- What is done after a call failed.
use Rattle.std.proofs.Common.{◌≡◌, ◌⊎◌, inl, inr, Err, List, [], ◌∷◌, refl, ap}
use Rattle.tl_loop.specs.declared.publish_loop.Event.{Event}
use Rattle.tl_loop.specs.declared.publish_loop.Event.TheVariants as event
use Rattle.tl_loop.specs.declared.publish_loop.Doing.{Doing}
use Rattle.tl_loop.specs.declared.publish_loop.Doing.TheVariants as doing
use Rattle.tl_loop.specs.declared.publish_loop.PublishLoop.{PublishLoop}
use Rattle.tl_loop.specs.PublishLoop.{after, after_failure, now_doing, step_of}
use Rattle.tl_loop.specs.Order.{EndsWith, IsRunning, after_all}

-- it fails with this fault, or ended with it
abbrev Fails : {F : Type 0} → F → Doing F → Type 0
Fails fault d = (d ≡ doing.Failing fault) ⊎ (d ≡ doing.Ended (Err fault))

ends_step : {F : Type 0} (fault : F) (d : Doing F) → Fails fault d → EndsWith fault (step_of d)
ends_step fault d (inl is) = inl (ap step_of is)
ends_step fault d (inr is) = inr (ap step_of is)

first_fails : {F : Type 0} (fault : F) (d : Doing F) → IsRunning d → after_failure fault d ≡ doing.Failing fault
first_fails fault doing.Waiting runs = refl
first_fails fault doing.Taking runs = refl
first_fails fault (doing.Publishing last) runs = refl
first_fails fault (doing.Telling last) runs = refl
first_fails fault (doing.TellingTooLong line) runs = refl
first_fails fault doing.TellingInputEnded runs = refl
first_fails fault doing.Closing runs = refl
first_fails fault doing.TakingRest runs = refl
first_fails fault doing.Sealing runs = refl
first_fails fault (doing.TellingClosed size) runs = refl
first_fails fault (doing.Failing first) runs = absurd runs
first_fails fault (doing.Ended outcome) runs = absurd runs

-- what a loop that does this does after an event
abbrev doing_next : {F : Type 0} → PublishLoop F → Event F → Doing F → Doing F
doing_next h e d = (after (now_doing h d) e).doing

fails_on : {F : Type 0} (fault : F) (h : PublishLoop F) (d : Doing F) (e : Event F) → Fails fault d → Fails fault (doing_next h e d)
fails_on fault h d (event.Done count) (inl is) = inr (ap (doing_next h (event.Done count)) is)
fails_on fault h d event.NothingNew (inl is) = inl (ap (doing_next h event.NothingNew) is)
fails_on fault h d (event.TooLong line) (inl is) = inl (ap (doing_next h (event.TooLong line)) is)
fails_on fault h d event.InputEnded (inl is) = inl (ap (doing_next h event.InputEnded) is)
fails_on fault h d event.Due (inl is) = inl (ap (doing_next h event.Due) is)
fails_on fault h d event.Stopped (inl is) = inl (ap (doing_next h event.Stopped) is)
fails_on fault h d (event.Failed more) (inl is) = inr (ap (doing_next h (event.Failed more)) is)
fails_on fault h d (event.Done count) (inr is) = inr (ap (doing_next h (event.Done count)) is)
fails_on fault h d event.NothingNew (inr is) = inr (ap (doing_next h event.NothingNew) is)
fails_on fault h d (event.TooLong line) (inr is) = inr (ap (doing_next h (event.TooLong line)) is)
fails_on fault h d event.InputEnded (inr is) = inr (ap (doing_next h event.InputEnded) is)
fails_on fault h d event.Due (inr is) = inr (ap (doing_next h event.Due) is)
fails_on fault h d event.Stopped (inr is) = inr (ap (doing_next h event.Stopped) is)
fails_on fault h d (event.Failed more) (inr is) = inr (ap (doing_next h (event.Failed more)) is)

fails_all : {F : Type 0} (fault : F) (h : PublishLoop F) (es : List (Event F)) → Fails fault h.doing → Fails fault (after_all h es).doing
fails_all fault h [] fails = fails
fails_all fault h (e ∷ es) fails = fails_all fault (after h e) es (fails_on fault h h.doing e fails)

pub ends_all : {F : Type 0} (h : PublishLoop F) (fault : F) → IsRunning h.doing → (es : List (Event F))
    → EndsWith fault (step_of (after_all (after h (event.Failed fault)) es).doing)
ends_all h fault runs es =
    ends_step fault (after_all (after h (event.Failed fault)) es).doing
    (fails_all fault (after h (event.Failed fault)) es (inl (first_fails fault h.doing runs)))
