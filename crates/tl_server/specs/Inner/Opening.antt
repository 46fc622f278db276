-- The steps of one request to a log that takes entries.
use Rattle.std.specs.Prelude.{◌≡◌, ℕ, Bool, Option, Some, None, Result, Ok, Err}
use Rattle.tl_archive.specs.Shelves.{Held}
use Rattle.tl_archive.specs.declared.fault.ShelfFault.{ShelfFault}
use Rattle.tl_device.specs.Device.{Passage}
use Rattle.tl_hash.specs.Bytes.{Bytes}
use Rattle.tl_publisher.specs.Pasts.{Past}
use Rattle.tl_tile.specs.declared.resource.Resource.{Resource}
use Rattle.tl_server.specs.Adding.{Course, StatusAnswers, LooksOnce, LooksTwice}
use Rattle.tl_server.specs.Log.{LooksUp, ReadsShelf}
use Rattle.tl_server.specs.ServeOpen.{Takes}
use Rattle.tl_server.specs.declared.adding.Outcome.{Outcome}
use Rattle.tl_server.specs.declared.adding.Outcome.TheVariants.{Nothing, Answered}
use Rattle.tl_server.specs.declared.adding.EntryStatus.{EntryStatus}
use Rattle.tl_server.specs.declared.fault.ServeFault.{ServeFault}

-- the outcome of sending an answer
abbrev pub outcome_of : Result (Option ℕ) ServeFault → Result Outcome ServeFault
outcome_of (Ok (Some status)) = Ok (Answered status)
outcome_of (Ok None) = Ok Nothing
outcome_of (Err fault) = Err fault

-- one of these courses was taken
pub record Concluded (Courses : Course → Type 0) (o : Passage) (result : Result Outcome ServeFault) : Type 0 where
  pub course : Course
  pub decided : Courses course
  pub takes : Takes course o result

-- what an entry with this status leads to, on the board
abbrev pub StatusOnBoard : Type 0 → Past → Past → EntryStatus → Bytes → Course → Type 0
StatusOnBoard A old new entry_status entry c = StatusAnswers (new ≡ old) (LooksUp A old new) (LooksOnce (LooksUp A old new)) entry entry_status c

-- what an entry with this status leads to, on a shelf
abbrev pub StatusOnShelf : Type 0 → Bool → Held → (Resource → ShelfFault → Type 0) → EntryStatus → Bytes → Course → Type 0
StatusOnShelf A is_honest held MayFail entry_status entry c =
    StatusAnswers (Unit {0}) (ReadsShelf A is_honest held MayFail) (LooksTwice (ReadsShelf A is_honest held MayFail)) entry entry_status c

-- what an entry with some reported status leads to
abbrev pub SomeStatus : (Bytes → EntryStatus → Type 0) → (EntryStatus → Bytes → Course → Type 0) → Bytes → Course → Type 0
SomeStatus Submits Becomes entry c = (entry_status : EntryStatus) × Submits entry entry_status × Becomes entry_status entry c
