-- The order in which a running log does its steps, whatever happens.
use Rattle.std.specs.Prelude.{◌≡◌, ◌⊎◌, ℕ, suc, Bool, true, false, Ok, Err, List, [], ◌∷◌}
use Rattle.tl_loop.specs.declared.publish_loop.Event.{Event}
use Rattle.tl_loop.specs.declared.publish_loop.Event.TheVariants as event
use Rattle.tl_loop.specs.declared.publish_loop.Step.{Step}
use Rattle.tl_loop.specs.declared.publish_loop.Step.TheVariants as step
use Rattle.tl_loop.specs.declared.publish_loop.Doing.{Doing}
use Rattle.tl_loop.specs.declared.publish_loop.Doing.TheVariants as doing
use Rattle.tl_loop.specs.declared.publish_loop.PublishLoop.{PublishLoop}
use Rattle.tl_loop.specs.PublishLoop.{after, step_of}

-- the loop after these events
abbrev pub after_all : {F : Type 0} → PublishLoop F → List (Event F) → PublishLoop F
after_all h [] = h
after_all h (e ∷ es) = after_all (after h e) es

-- what a log owes its readers: nothing, to publish what it took in, or to report what it published
pub data Owed : Type 0 where
  nothing : Owed
  publication : Owed
  telling : Owed

-- what is owed once entries were taken in
abbrev pub with_entries : ℕ → Owed → Owed
with_entries (suc n) nothing = publication
with_entries n owed = owed

-- what is owed after this step is done, with this many entries
abbrev pub once_done : {F : Type 0} → Step F → ℕ → Owed → Owed
once_done step.Take count owed = with_entries count owed
once_done step.TakeRest count owed = with_entries count owed
once_done step.Publish count owed = telling
once_done step.TellHead count owed = nothing
once_done _ count owed = owed

-- what is owed if this step found nothing new
abbrev pub once_nothing : {F : Type 0} → Step F → Owed → Owed
once_nothing step.Publish owed = nothing
once_nothing _ owed = owed

-- the same after an event that came when this step was next
abbrev pub owed_after : {F : Type 0} → Step F → Event F → Owed → Owed
owed_after s (event.Done count) owed = once_done s count owed
owed_after s event.NothingNew owed = once_nothing s owed
owed_after s _ owed = owed

-- what is owed after these events
abbrev pub owed_all : {F : Type 0} → PublishLoop F → List (Event F) → Owed → Owed
owed_all h [] owed = owed
owed_all h (e ∷ es) owed = owed_all (after h e) es (owed_after (step_of h.doing) e owed)

-- what a log that waits owes: a publication, if something is new
abbrev pub owed_new : Bool → Owed
owed_new true = publication
owed_new false = nothing

-- a log that begins, and what it owes: it was published, which it reports first, or it waits
abbrev pub Begins : {F : Type 0} → PublishLoop F → Owed → Type 0
Begins h owed =
    ((h.doing ≡ doing.Telling false) × (h.has_new ≡ false) × (owed ≡ telling))
    ⊎ ((h.doing ≡ doing.Waiting) × (owed ≡ owed_new h.has_new))

-- a step that may be done while this is owed: only what was taken in is published, only what was published is
-- reported, and a log is closed, reported to be closed and ended well only if nothing is owed
abbrev pub MayDo : {F : Type 0} → Owed → Step F → Type 0
MayDo owed step.Publish = owed ≡ publication
MayDo owed step.TellHead = owed ≡ telling
MayDo owed step.CloseLog = owed ≡ nothing
MayDo owed (step.TellClosed size) = owed ≡ nothing
MayDo owed (step.End (Ok done)) = owed ≡ nothing
MayDo owed _ = Unit {0}

-- it has neither failed nor ended
abbrev pub IsRunning : {F : Type 0} → Doing F → Type 0
IsRunning (doing.Failing fault) = ⊥
IsRunning (doing.Ended outcome) = ⊥
IsRunning _ = Unit {0}

-- the listener is closed, or it ends with this fault
abbrev pub EndsWith : {F : Type 0} → F → Step F → Type 0
EndsWith fault s = (s ≡ step.CloseListener) ⊎ (s ≡ step.End (Err fault))
