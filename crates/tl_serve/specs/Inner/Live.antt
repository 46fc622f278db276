-- What the calls of a running log return, by what its lanes and its publications are.
use Rattle.std.specs.Prelude.{◌≡◌, ℕ, ◌≤◌, Bool, true, false, Option, Some, None, Result, Ok, Err, length}
use Rattle.tl_run.specs.declared.fault.RunFault.{RunFault}
use Rattle.tl_run.specs.declared.fault.RunFault.TheVariants as run
use Rattle.tl_publisher.specs.Pasts.{Past}
use Rattle.tl_publisher.specs.Operating.{Operated}
use Rattle.tl_publisher.specs.Publishing.{Publishes}
use Rattle.tl_publisher.specs.declared.fault.PublishFault.{PublishFault}
use Rattle.tl_publisher.specs.declared.fault.PublishFault.TheVariants as publish
use Rattle.tl_sequencer.specs.Faults.{EndRefuses, TakeRefuses}
use Rattle.tl_sequencer.specs.Log.{End, Log, entries_of}
use Rattle.tl_sequencer.specs.Steps.{Closes, IsComplete, IsFirstOpen, Takes}
use Rattle.tl_sequencer.specs.declared.fault.TakeFault.{TakeFault}
use Rattle.tl_sequencer.specs.declared.fault.TakeFault.TheVariants as take

-- why nothing was taken, and why nothing was published
abbrev pub after_take : TakeFault → RunFault
after_take take.OutOfMemory = run.OutOfMemory
after_take fault = run.Operator

abbrev pub IsAfterPublish : PublishFault → RunFault → Type 0
IsAfterPublish publish.NothingNew told = ⊥
IsAfterPublish publish.OutOfMemory told = told ≡ run.OutOfMemory
IsAfterPublish (publish.Sign place) told = told ≡ run.Sign
IsAfterPublish publish.Quorum told = told ≡ run.Operator

-- this many more entries of the lane stand at the end of the log, at most as many as were asked for; or nothing was
-- taken
abbrev pub TakesIn : {A : Type 0} → ℕ → ℕ → Log A → Log A → Result ℕ RunFault → Type 0
TakesIn lane most a b (Ok n) = (n ≤ most) × Takes lane n a b
TakesIn lane most a b (Err told) = (b ≡ a) × ((why : TakeFault) × TakeRefuses a lane most why × (told ≡ after_take why))

-- all that was left of the lane of an end, this many entries, stands there; or nothing was taken
abbrev pub TakesRest : {A : Type 0} → End A → Log A → Log A → Result ℕ RunFault → Type 0
TakesRest end a b (Ok n) = Closes end n a b
TakesRest end a b (Err told) = (b ≡ a) × ((why : TakeFault) × EndRefuses a end why × (told ≡ after_take why))

-- on the board the whole log is published; or it is published already; or nothing changed
abbrev pub Shows : {A : Type 0} → Operated A → Operated A → Result (Option Past) RunFault → Type 0
Shows a b (Ok (Some p)) = Publishes a b (Ok p)
Shows a b (Ok None) = Publishes a b (Err publish.NothingNew)
Shows a b (Err told) = (why : PublishFault) × Publishes a b (Err why) × IsAfterPublish why told

-- the same, by whether something was new
abbrev pub ShowsNew : {A : Type 0} → Operated A → Operated A → Result Bool RunFault → Type 0
ShowsNew a b (Ok true) = (p : Past) × Shows a b (Ok (Some p))
ShowsNew a b (Ok false) = Shows a b (Ok None)
ShowsNew a b (Err told) = Shows a b (Err told)

-- the log is complete, and has this many entries; or the end of a lane wasn't taken in
abbrev pub Finishes : {A : Type 0} → Log A → Result ℕ RunFault → Type 0
Finishes log (Ok n) = IsComplete log × (n ≡ length (entries_of log))
Finishes log (Err told) = (told ≡ run.Operator) × ((lane : ℕ) × IsFirstOpen log lane)
