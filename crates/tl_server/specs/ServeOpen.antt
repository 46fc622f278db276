-- One request to a log that takes entries, over a reader and a writer.
use Rattle.std.specs.Prelude.{◌≡◌, ◌≢◌, ℕ, [], Bool, Option, Some, None, Result, Ok, Err}
use Rattle.tl_archive.specs.Shelves.{Held}
use Rattle.tl_archive.specs.declared.fault.ShelfFault.{ShelfFault}
use Rattle.tl_device.specs.Device.{Passage, HasFailed, IsUnwritten, WroteWhole, WrotePart}
use Rattle.tl_hash.specs.Bytes.{Bytes}
use Rattle.tl_witness.specs.Cases.{UnlessSome}
use Rattle.tl_publisher.specs.Pasts.{Past}
use Rattle.tl_tile.specs.declared.resource.Resource.{Resource}
use Rattle.tl_server.specs.Adding.{Course, Reply, Misplace, Postpone, OpenLogDecides, OpenShelfDecides}
use Rattle.tl_server.specs.Answer.{bare, answer_text}
use Rattle.tl_server.specs.Exchange.{Begun, Begins, IsHeadless}
use Rattle.tl_server.specs.Serve.{Came}
use Rattle.tl_server.specs.declared.adding.EntryStatus.{EntryStatus}
use Rattle.tl_server.specs.declared.adding.Outcome.{Outcome}
use Rattle.tl_server.specs.declared.adding.Outcome.TheVariants.{Nothing, Answered, Later, Misplaced}
use Rattle.tl_server.specs.declared.fault.ServeFault.{ServeFault}
use Rattle.tl_server.specs.declared.fault.ServeFault.TheVariants.{Read, Write}

-- no byte leads to nothing, and an input without a head to its status; else the head and what follows it decide. Idle
-- says that nothing else was asked
abbrev pub OpenExchange : Type 0 → (Begun → Course → Type 0) → Bytes → Option Course → Type 0
OpenExchange Idle Decides input None = (input ≡ []) × Idle
OpenExchange Idle Decides input (Some c) =
    (input ≢ [])
    × UnlessSome (Begins input) (Idle × ((status : ℕ) × IsHeadless input status × (c ≡ Reply (bare status)))) (λ b.
    Decides b c)

-- writing a text: all of it is written with this outcome, or the writer fails after a part of it
abbrev pub Writes : Bytes → Outcome → Passage → Result Outcome ServeFault → Type 0
Writes text outcome o (Ok got) = (got ≡ outcome) × WroteWhole o text
Writes text outcome o (Err Write) = WrotePart o text
Writes text outcome o (Err Read) = ⊥

-- taking a course; nothing is written if the answer comes later
abbrev pub Takes : Course → Passage → Result Outcome ServeFault → Type 0
Takes (Reply a) o result = Writes (answer_text a) (Answered a.status) o result
Takes Misplace o result = Writes (answer_text (bare 500)) Misplaced o result
Takes Postpone o result = (result ≡ Ok Later) × IsUnwritten o

-- this was the course, and it was taken
pub record Took (Courses : Bytes → Option Course → Type 0) (i o : Passage) (result : Result Outcome ServeFault) : Type 0 where
  pub course : Course
  pub came : Came Courses i (Some course)
  pub takes : Takes course o result

-- one request; i is its reader, o its writer. Nothing is written if no byte came or a read failed
abbrev pub ServesOpen
    : Type 0 → (Bytes → Option Course → Type 0) → Passage → Passage → Result Outcome ServeFault → Type 0
ServesOpen Idle Courses i o (Ok Nothing) = Came Courses i None × IsUnwritten o
ServesOpen Idle Courses i o (Err Read) = HasFailed i × IsUnwritten o × Idle
ServesOpen Idle Courses i o (Ok (Answered status)) = Took Courses i o (Ok (Answered status))
ServesOpen Idle Courses i o (Ok Later) = Took Courses i o (Ok Later)
ServesOpen Idle Courses i o (Ok Misplaced) = Took Courses i o (Ok Misplaced)
ServesOpen Idle Courses i o (Err Write) = Took Courses i o (Err Write)

-- one request to a log with a board, which went from `old` to `new`. Unasked says that no entry was submitted, Submits
-- that one call reported this status of an entry
abbrev pub AnswersOpenLog
    : Type 0 → Type 0 → (Bytes → EntryStatus → Type 0)
    → Past → Past → Passage → Passage → Result Outcome ServeFault → Type 0
AnswersOpenLog A Unasked Submits old new i o result =
    ServesOpen (Unasked × (new ≡ old)) (OpenExchange (Unasked × (new ≡ old)) (OpenLogDecides A Unasked Submits old new)) i o result

-- one request to a log on a shelf
abbrev pub AnswersOpenShelf
    : Type 0 → Type 0 → (Bytes → EntryStatus → Type 0)
    → Bool → Held → (Resource → ShelfFault → Type 0) → Passage → Passage → Result Outcome ServeFault → Type 0
AnswersOpenShelf A Unasked Submits is_honest held MayFail i o result =
    ServesOpen Unasked (OpenExchange Unasked (OpenShelfDecides A Unasked Submits is_honest held MayFail)) i o result
