-- What the thread that carries out the steps of a log does in each of them, and what comes of it.
use Rattle.std.specs.Prelude.{◌≡◌, ◌⊎◌, ℕ, ◌+◌, ◌-◌, ◌^◌, ◌≤◌, min, Bool, true, false, List, [], ◌∷◌, length, Option, Some, None, Result, Ok, Err}
use Rattle.std.specs.Borrow.{Bor}
use Rattle.std.specs.Option.{unwrap_or}
use Rattle.tl_hash.specs.declared.head.Head.{Head}
use Rattle.tl_hash.specs.Bytes.{Bytes}
use Rattle.tl_device.specs.Device.{Counted, IsUnwritten, Passage, passage}
use Rattle.tl_loop.specs.declared.publish_loop.Event.{Event}
use Rattle.tl_loop.specs.declared.publish_loop.Event.TheVariants as event
use Rattle.tl_loop.specs.declared.publish_loop.Step.{Step}
use Rattle.tl_loop.specs.declared.publish_loop.Step.TheVariants as step
use Rattle.tl_loop.specs.declared.publish_loop.PublishLoop.{PublishLoop}
use Rattle.tl_loop.specs.PublishLoop.{after, step_of}
use Rattle.tl_loop.specs.Order.{Owed, after_all, publication, telling}
use Rattle.tl_sequencer.specs.Log.{End, Log}
use Rattle.tl_run.specs.declared.fault.RunFault.{RunFault}
use Rattle.tl_serve.specs.declared.running.Running.{Running}
use Rattle.tl_serve.specs.Inner.Rounds.{TakesEnds, TakesRound}
use Rattle.tl_serve.specs.Inner.Telling.{Tells, told_head, told_input_ended, told_too_long}

-- the event of a call that takes entries in
abbrev pub count_event : Result ℕ RunFault → Event RunFault
count_event (Ok n) = event.Done n
count_event (Err fault) = event.Failed fault

-- the event of a call that reports something
abbrev pub told_event : Result (Unit {0}) RunFault → Event RunFault
told_event (Ok done) = event.Done 0
told_event (Err fault) = event.Failed fault

-- the event of a call that publishes, by whether something was new
abbrev pub shown_event : Result Bool RunFault → Event RunFault
shown_event (Ok true) = event.Done 0
shown_event (Ok false) = event.NothingNew
shown_event (Err fault) = event.Failed fault

-- what a log owes when it begins to be served: to publish what is due, or else to report what was published
abbrev pub owed_first : Bool → Owed
owed_first true = publication
owed_first false = telling

-- how many entries were taken in all, after a call took some; a sum above 2^64 - 1 is counted as that
abbrev pub taken_after : ℕ → Result ℕ RunFault → ℕ
taken_after taken (Ok n) = min (taken + n) (2 ^ 64 - 1)
taken_after taken (Err fault) = taken

-- how many of the taken entries are published, after a call published them
abbrev pub published_after : ℕ → ℕ → Result Bool RunFault → ℕ
published_after taken published (Ok true) = taken
published_after taken published _ = published

-- entries are taken into the log, as this says by the result: they are counted, and the event is that of the result
abbrev pub Counts : {O : Type 0} → (O → O → Result ℕ RunFault → Type 0) → Running O → Running O → Event RunFault → Type 0
Counts Takes a b e =
    (answer : Result ℕ RunFault) × Takes a.log b.log answer
    × (b ≡ record a { log = b.log; taken = taken_after a.taken answer }) × (e ≡ count_event answer)

-- a round of the lanes: if no most is given for a lane, it is as many entries as are left to a batch
abbrev pub CountsRound : {O A : Type 0} → (O → Log A) → ℕ → Running O → Running O → Event RunFault → Type 0
CountsRound log_of left a b e =
    Counts (λ x y answer. TakesRound a.rounds.lanes (unwrap_or a.rounds.most left) (log_of x) (log_of y) answer) a b e

-- all that is left of the lanes of these ends
abbrev pub CountsEnds : {O A : Type 0} → (O → Log A) → List (End A) → Running O → Running O → Event RunFault → Type 0
CountsEnds log_of ends a b e = Counts (λ x y answer. TakesEnds ends (log_of x) (log_of y) answer) a b e

-- what was taken is published, as this says by the result, and the event is that of the result
abbrev pub ShowsTaken : {O : Type 0} → (O → O → Result Bool RunFault → Type 0) → Running O → Running O → Event RunFault → Type 0
ShowsTaken Shows a b e =
    (answer : Result Bool RunFault) × Shows a.log b.log answer
    × (b ≡ record a { log = b.log; published = published_after a.taken a.published answer }) × (e ≡ shown_event answer)

-- the writer is given this text, and the event says whether it took it
abbrev pub TellsText : Bytes → Passage → Event RunFault → Type 0
TellsText text o e = (told : Result (Unit {0}) RunFault) × Tells text o told × (e ≡ told_event told)

-- nothing is reported, which is done
abbrev pub TellsNothing : Passage → Event RunFault → Type 0
TellsNothing o e = IsUnwritten o × (e ≡ event.Done 0)

-- a head is reported after this word, if there is one
abbrev pub TellsHeadOf : Bytes → Option Head → Passage → Event RunFault → Type 0
TellsHeadOf word None o e = TellsNothing o e
TellsHeadOf word (Some head) o e = TellsText (told_head word head.size head.root) o e

-- the head that the log returned is reported, unless nothing is reported
abbrev pub TellsHead : {O : Type 0} → (O → O → Option Head → Type 0) → Option (Bor (List ℕ)) → Running O → Running O → Passage → Event RunFault → Type 0
TellsHead Heads None a b o e = (b ≡ a) × TellsNothing o e
TellsHead Heads (Some word) a b o e =
    (head : Option Head) × Heads a.log b.log head × (b ≡ record a { log = b.log }) × TellsHeadOf word.now head o e

-- that the input has ended is reported, unless nothing is reported
abbrev pub TellsInputEnded : Option (Bor (List ℕ)) → Passage → Event RunFault → Type 0
TellsInputEnded None o e = TellsNothing o e
TellsInputEnded (Some word) o e = TellsText told_input_ended o e

-- a running log, what feeds it, and the writer that it reports to
pub record Moment (O F L : Type 0) : Type 0 where
  pub running : Running O
  pub feed : F
  pub out : Counted L

-- whether a step is carried out by this thread alone
abbrev pub is_own : {X : Type 0} → Step X → Bool
is_own step.CloseListener = false
is_own step.TakeRest = false
is_own step.CloseLog = false
is_own (step.TellClosed size) = false
is_own (step.End outcome) = false
is_own _ = true

-- given what the calls of a log, of a feed and of a writer say
module _ {O F L A : Type 0} (log_of : O → Log A) (Shows : O → O → Result Bool RunFault → Type 0) (Heads : O → O → Option Head → Type 0) (Gives : F → F → Event RunFault → Type 0) (contents : L → Option (List ℕ)) where
  -- what is done in a step, if this many entries are left to a batch, and the event that follows
  abbrev pub Does : Step RunFault → ℕ → Moment O F L → Moment O F L → Event RunFault → Type 0
  Does step.Wait left m n e = (n ≡ record m { feed = n.feed }) × Gives m.feed n.feed e
  Does step.Take left m n e = (n ≡ record m { running = n.running }) × CountsRound log_of left m.running n.running e
  Does step.Publish left m n e = (n ≡ record m { running = n.running }) × ShowsTaken Shows m.running n.running e
  Does step.TellHead left m n e =
      (n.feed ≡ m.feed) × TellsHead Heads m.running.rounds.word m.running n.running (passage contents m.out n.out) e
  Does (step.TellTooLong line) left m n e =
      (n ≡ record m { out = n.out }) × TellsText (told_too_long line) (passage contents m.out n.out) e
  Does step.TellInputEnded left m n e =
      (n ≡ record m { out = n.out }) × TellsInputEnded m.running.rounds.word (passage contents m.out n.out) e
  Does _ left m n e = ⊥

  -- the step of a loop is carried out; or it isn't this thread's alone, and nothing is done
  abbrev pub Carries : PublishLoop RunFault → Moment O F L → Moment O F L → Option (Event RunFault) → Type 0
  Carries publish_loop m n (Some e) = Does (step_of publish_loop.doing) publish_loop.left m n e
  Carries publish_loop m n None = (is_own (step_of publish_loop.doing) ≡ false) × (n ≡ m)

  -- the steps that a loop takes by these events were carried out, one after another, and these events followed
  abbrev pub DoesAll : PublishLoop RunFault → List (Event RunFault) → Moment O F L → Moment O F L → Type 0
  DoesAll publish_loop [] m n = n ≡ m
  DoesAll publish_loop (e ∷ more) m n =
      (k : Moment O F L) × Does (step_of publish_loop.doing) publish_loop.left m k e × DoesAll (after publish_loop e) more k n

  -- steps were carried out, one after another, up to one that isn't this thread's alone, unless they were 2^64 - 1
  pub record Drives (publish_loop : PublishLoop RunFault) (m n : Moment O F L) (last : PublishLoop RunFault) : Type 0 where
    pub events : List (Event RunFault)
    pub done : DoesAll publish_loop events m n
    pub comes : last ≡ after_all publish_loop events
    pub ends : (is_own (step_of last.doing) ≡ false) ⊎ (2 ^ 64 - 1 ≤ length events)
