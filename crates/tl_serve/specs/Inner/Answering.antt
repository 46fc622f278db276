-- How the requests of a running log, and of a witness, are answered.
use Rattle.std.specs.Global.{Global as GlobalValue}
use Rattle.std.specs.Prelude.{◌≡◌, ℕ, List, Bool, true, false, Option, Some, None, Result, Ok, Err}
use Rattle.tl_archive.specs.Shelves.{Held}
use Rattle.tl_archive.specs.declared.fault.ShelfFault.{ShelfFault}
use Rattle.tl_hash.specs.Bytes.{Bytes, Digest}
use Rattle.tl_publisher.specs.Pasts.{Past}
use Rattle.tl_tile.specs.declared.resource.Resource.{Resource}
use Rattle.tl_server.specs.Adding.{Course, OpenLogDecides, OpenShelfDecides}
use Rattle.tl_server.specs.Exchange.{Exchange}
use Rattle.tl_witness.specs.Saver.{Saved}
use Rattle.tl_witness.specs.Witnessed.{Witnessed}
use Rattle.tl_server.specs.Witness.{Replies, WitnessDecides}
use Rattle.tl_server.specs.Log.{LogDecides, ShelfDecides}
use Rattle.tl_server.specs.ServeOpen.{OpenExchange}
use Rattle.tl_server.specs.declared.adding.EntryStatus.{EntryStatus}
use Rattle.tl_server.specs.declared.adding.Outcome.{Outcome}
use Rattle.tl_server.specs.declared.adding.Outcome.TheVariants.{Answered, Nothing}
use Rattle.tl_server.specs.declared.fault.ServeFault.{ServeFault}
use Rattle.tl_keepalive.specs.Plain.{AtOnce}

-- the outcome of a call that answers at once
abbrev pub outcome_of : Result (Option ℕ) ServeFault → Result Outcome ServeFault
outcome_of (Ok (Some status)) = Ok (Answered status)
outcome_of (Ok None) = Ok Nothing
outcome_of (Err fault) = Err fault

-- nothing was asked of a board: no entry was submitted, if it takes entries, and its reader saw nothing new
abbrev pub board_idle : Bool → Past → Past → Type 0 → Type 0
board_idle true old new Unasked = Unasked × (new ≡ old)
board_idle false old new Unasked = new ≡ old

-- what an input to a log on the board leads to, which takes entries or doesn't
abbrev pub board_courses : Bool → Past → Past → Type 0 → (Bytes → EntryStatus → Type 0) → Bytes → Option Course → Type 0
board_courses true old new Unasked Submits =
    OpenExchange (Unasked × (new ≡ old)) (OpenLogDecides GlobalValue Unasked Submits old new)
board_courses false old new Unasked Submits = AtOnce (Exchange (new ≡ old) (LogDecides GlobalValue old new))

-- the same for a log on a shelf
abbrev pub shelf_idle : Bool → Type 0 → Type 0
shelf_idle true Unasked = Unasked
shelf_idle false Unasked = Unit {0}

abbrev pub shelf_courses
    : Bool → Bool → Held → (Resource → ShelfFault → Type 0) → Type 0 → (Bytes → EntryStatus → Type 0)
    → Bytes → Option Course → Type 0
shelf_courses true is_honest held MayFail Unasked Submits =
    OpenExchange Unasked (OpenShelfDecides GlobalValue Unasked Submits is_honest held MayFail)
shelf_courses false is_honest held MayFail Unasked Submits =
    AtOnce (Exchange (Unit {0}) (ShelfDecides GlobalValue is_honest held MayFail))

-- what an input to a witness leads to, at some time, with some saver: H is the digest function, and `book` has the
-- origins with which the witness was opened
abbrev pub witness_courses : Digest → List Witnessed → Bytes → Option Course → Type 0
witness_courses H book input course =
    (time : ℕ) × (saved : Saved) × (saved_after : Saved)
    × AtOnce (Exchange (saved_after ≡ saved) (WitnessDecides (saved_after ≡ saved) (Replies H book time saved saved_after)))
    input course
