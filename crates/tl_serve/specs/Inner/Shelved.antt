-- A running log on a shelf: what its lanes gave is put behind what the shelf had.
use Rattle.std.specs.Prelude.{◌≡◌, ◌⊎◌, Bool, true, false, List, [], ◌++◌, Option, Some, None, Result, Ok, Err}
use Rattle.sha2.specs.Sha256.{sha256}
use Rattle.tl_hash.specs.Bytes.{Bytes}
use Rattle.tl_hash.specs.Tree.{tree_hash}
use Rattle.tl_hash.specs.declared.head.Head.{Head}
use Rattle.tl_note.specs.Key.{IsKeyName}
use Rattle.tl_sequencer.specs.Intake.{Intake}
use Rattle.tl_sequencer.specs.Log.{entries_of as taken_of}
use Rattle.tl_sequencer.specs.Merge.{IsMerge}
use Rattle.tl_sequencer.specs.Steps.{IsComplete, sent_of}
use Rattle.tl_ledger.specs.Opening.{Found}
use Rattle.tl_ledger.specs.Standing.{IsStanding, Ledger}
use Rattle.tl_run.specs.Signing.{LogKey}
use Rattle.tl_run.specs.declared.fault.RunFault.{RunFault}
use Rattle.tl_append.specs.Appending.{Course}
use Rattle.tl_append.specs.Cosigning.{Quorum, ShowsAtMost, ShowsBatch, ShowsThen, Turn, entries_of}
use Rattle.tl_append.specs.Running.{Visit}
use Rattle.tl_serve.specs.Serving.{IsLeft, ServesPart, ServesWhole}

-- since it began, what was drained of what its lanes gave was appended in turns, each shown under the log's key with
-- its quorum, and then put behind the log; if no publication is due all is shown, and nothing waits
pub record IsServing {A : Type 0} (key : LogKey) (q : Quorum) (c : Course) (intake : Intake A) (is_due : Bool) : Type 0 where
  pub named : IsKeyName key.name
  pub turns : List Turn
  pub rest : List Bytes
  pub shows : ShowsThen key q turns rest c
  pub own : entries_of turns ++ rest ≡ intake.drained
  pub all : is_due ≡ false → rest ≡ []
  pub none : is_due ≡ false → intake.waiting ≡ []

-- what waited is published, and drained; or nothing was due; or it was published, put, or left, as the shelf failed
abbrev pub Seals : {A : Type 0} → LogKey → Quorum → Course → Intake A → Intake A → Result Bool RunFault → Type 0
Seals key q c a b (Ok true) = ShowsBatch key q a.waiting c × (b.drained ≡ a.log.taken) × (b.log ≡ a.log)
Seals key q c a b (Ok false) = (a.waiting ≡ []) × (b ≡ a) × (c.is ≡ c.was) × (c.after ≡ c.before) × (c.sees ≡ c.saw)
Seals key q c a b (Err told) = ShowsAtMost key q a.waiting c × (b.log ≡ a.log)

-- the size and the root of the ledger's log
abbrev pub IsHeadOf : Ledger → Option Head → Type 0
IsHeadOf ledger None = ⊥
IsHeadOf ledger (Some head) =
    (head.size ≡ ledger.edge.size)
    × ((entries : List Bytes) → IsStanding sha256 entries ledger → head.root ≡ tree_hash sha256 entries)

-- the log of the lanes is complete, a merge of what was sent, and nothing of it is unpublished
pub record IsClosed {A : Type 0} (intake : Intake A) (is_due : Bool) : Type 0 where
  pub none_due : is_due ≡ false
  pub complete : IsComplete intake.log
  pub merge : IsMerge (taken_of intake.log) [] (sent_of intake.log)
  pub given : taken_of intake.log ≡ intake.drained ++ intake.waiting

-- how a log is served once its key is known
abbrev pub ServesUnder : LogKey → Quorum → Found → Visit → Result (Unit {0}) RunFault → Type 0
ServesUnder key q found v (Ok done) = ServesWhole key q found v
ServesUnder key q found v (Err fault) = IsLeft v ⊎ ServesPart key q found v
