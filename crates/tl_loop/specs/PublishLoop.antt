-- What a running log does next, event by event.
use Rattle.std.specs.Prelude.{ℕ, ◌-◌, Bool, true, false, not, Ok, Err, nat_lt, ◌&&◌, ◌||◌, ◌==◌, if◌then◌else◌}
use Rattle.tl_loop.specs.declared.publish_loop.Event.{Event}
use Rattle.tl_loop.specs.declared.publish_loop.Event.TheVariants as event
use Rattle.tl_loop.specs.declared.publish_loop.Step.{Step}
use Rattle.tl_loop.specs.declared.publish_loop.Step.TheVariants as step
use Rattle.tl_loop.specs.declared.publish_loop.Doing.{Doing}
use Rattle.tl_loop.specs.declared.publish_loop.Doing.TheVariants as doing
use Rattle.tl_loop.specs.declared.publish_loop.PublishLoop.{PublishLoop}

-- the step of what is being done
abbrev pub step_of : {F : Type 0} → Doing F → Step F
step_of doing.Waiting = step.Wait
step_of doing.Taking = step.Take
step_of (doing.Publishing last) = step.Publish
step_of (doing.Telling last) = step.TellHead
step_of (doing.TellingTooLong line) = step.TellTooLong line
step_of doing.TellingInputEnded = step.TellInputEnded
step_of doing.Closing = step.CloseListener
step_of doing.TakingRest = step.TakeRest
step_of doing.Sealing = step.CloseLog
step_of (doing.TellingClosed size) = step.TellClosed size
step_of (doing.Failing fault) = step.CloseListener
step_of (doing.Ended outcome) = step.End outcome

-- the same loop, doing this
abbrev pub now_doing : {F : Type 0} → PublishLoop F → Doing F → PublishLoop F
now_doing h d = record h { doing = d }

-- the same loop after it took in this many more entries
abbrev pub with_taken : {F : Type 0} → PublishLoop F → ℕ → PublishLoop F
with_taken h count = record h { has_new = h.has_new || nat_lt 0 count; left = h.left - count }

-- the same loop once nothing is to be published
abbrev pub without_new : {F : Type 0} → PublishLoop F → PublishLoop F
without_new h = record h { has_new = false; left = h.batch }

-- after the last call took in this many entries: a whole batch is published at once; if there is none, more is taken
-- while more comes; then what there is is published, unless it waits for more
abbrev pub next_taking : {F : Type 0} → PublishLoop F → ℕ → Doing F
next_taking h count =
    if h.has_new && (h.left == 0) then doing.Publishing false
    else if nat_lt 0 count then doing.Taking
    else if h.has_new && not h.gathers then doing.Publishing false
    else doing.Waiting

-- after all that was left was taken in
abbrev pub next_rest : {F : Type 0} → PublishLoop F → Doing F
next_rest h = if h.has_new then doing.Publishing true else doing.Sealing

-- after the step is done, with this many entries
abbrev pub after_done : {F : Type 0} → Doing F → ℕ → PublishLoop F → PublishLoop F
after_done doing.Waiting count h = now_doing h doing.Taking
after_done doing.Taking count h = now_doing (with_taken h count) (next_taking (with_taken h count) count)
after_done (doing.Publishing last) count h = now_doing (without_new h) (doing.Telling last)
after_done (doing.Telling true) count h = now_doing h doing.Sealing
after_done (doing.Telling false) count h = now_doing h doing.Taking
after_done (doing.TellingTooLong line) count h = now_doing h doing.Taking
after_done doing.TellingInputEnded count h = now_doing h doing.Taking
after_done doing.Closing count h = now_doing h doing.TakingRest
after_done doing.TakingRest count h = now_doing (with_taken h count) (next_rest (with_taken h count))
after_done doing.Sealing count h = now_doing h (doing.TellingClosed count)
after_done (doing.TellingClosed size) count h = now_doing h (doing.Ended (Ok tt))
after_done (doing.Failing fault) count h = now_doing h (doing.Ended (Err fault))
after_done (doing.Ended outcome) count h = now_doing h (doing.Ended outcome)

-- if nothing was new
abbrev pub after_nothing : {F : Type 0} → Doing F → PublishLoop F → PublishLoop F
after_nothing (doing.Publishing true) h = now_doing (without_new h) doing.Sealing
after_nothing (doing.Publishing false) h = now_doing (without_new h) doing.Waiting
after_nothing d h = now_doing h d

-- whether it waits
abbrev pub is_waiting : {F : Type 0} → Doing F → Bool
is_waiting doing.Waiting = true
is_waiting _ = false

-- after a call failed, the first time and later
abbrev pub after_failure : {F : Type 0} → F → Doing F → Doing F
after_failure fault (doing.Failing first) = doing.Ended (Err first)
after_failure fault (doing.Ended outcome) = doing.Ended outcome
after_failure fault _ = doing.Failing fault

-- if a publication is due while it waits: what is new is published
abbrev pub next_due : {F : Type 0} → PublishLoop F → Doing F
next_due h = if h.has_new then doing.Publishing false else doing.Waiting

-- what comes while it doesn't wait is ignored
abbrev pub if_waiting : {F : Type 0} → PublishLoop F → Doing F → PublishLoop F
if_waiting h d = if is_waiting h.doing then now_doing h d else h

-- the same loop after an event
abbrev pub after : {F : Type 0} → PublishLoop F → Event F → PublishLoop F
after h (event.Done count) = after_done h.doing count h
after h event.NothingNew = after_nothing h.doing h
after h (event.TooLong line) = if_waiting h (doing.TellingTooLong line)
after h event.InputEnded = if_waiting h doing.TellingInputEnded
after h event.Due = if_waiting h (next_due h)
after h event.Stopped = if_waiting h doing.Closing
after h (event.Failed fault) = now_doing h (after_failure fault h.doing)
