-- Calls that answer at once, as those that may answer later.
use Rattle.std.specs.Global.{Global as GlobalValue}
use Rattle.std.proofs.Common.{◌≡◌, ℕ, Bool, true, false, List, Option, Some, None, Result, Ok, Err, ap, subst, sym}
use Rattle.tl_device.specs.Device.{Passage}
use Rattle.tl_archive.specs.Shelves.{Held}
use Rattle.tl_archive.specs.declared.fault.ShelfFault.{ShelfFault}
use Rattle.tl_hash.specs.Bytes.{Bytes, Digest}
use Rattle.tl_publisher.specs.Pasts.{Past}
use Rattle.tl_tile.specs.declared.resource.Resource.{Resource}
use Rattle.tl_server.specs.Exchange.{Exchange}
use Rattle.tl_server.specs.Log.{LogDecides, ShelfDecides}
use Rattle.tl_server.specs.Witness.{Replies, WitnessDecides}
use Rattle.tl_witness.specs.Saver.{Saved}
use Rattle.tl_witness.specs.Witnessed.{Witnessed}
use Rattle.tl_server.specs.declared.adding.EntryStatus.{EntryStatus}
use Rattle.tl_server.specs.declared.adding.Outcome.{Outcome}
use Rattle.tl_server.specs.Adding.{Course, Reply}
use Rattle.tl_server.specs.Answer.{Answer}
use Rattle.tl_server.specs.Serve.{Came, Serves}
use Rattle.tl_server.specs.ServeOpen.{AnswersOpenLog, AnswersOpenShelf, ServesOpen, Took}
use Rattle.tl_server.specs.declared.adding.Outcome.TheVariants.{Answered, Later, Misplaced, Nothing}
use Rattle.tl_server.specs.declared.fault.ServeFault.{ServeFault}
use Rattle.tl_server.specs.declared.fault.ServeFault.TheVariants.{Read, Write}
use Rattle.tl_keepalive.specs.Plain.{AtOnce}
use Rattle.tl_serve.specs.Inner.Answering.{board_courses, board_idle, outcome_of, shelf_courses, shelf_idle, witness_courses}

module _ (Idle : Type 0) (Answers : Bytes → Option Answer → Type 0) (i o : Passage) where
  pub at_once : (answered : Result (Option ℕ) ServeFault) → Serves Idle Answers i o answered → ServesOpen Idle (AtOnce Answers) i o (outcome_of answered)
  at_once (Ok None) (came, none) = (record { bytes = came.bytes; ended = came.ended; gave = came.gave; so = came.so }, none)
  at_once (Ok (Some status)) sent = record {
    course = Reply sent.answer;
    came = record { bytes = sent.came.bytes; ended = sent.came.ended; gave = sent.came.gave; so = sent.came.so };
    takes = (ap Answered sent.sends.0, sent.sends.1);
  }
  at_once (Err Read) idle = idle
  at_once (Err Write) sent = record {
    course = Reply sent.answer;
    came = record { bytes = sent.came.bytes; ended = sent.came.ended; gave = sent.came.gave; so = sent.came.so };
    takes = sent.sends;
  }

-- ---- a log, which takes entries or doesn't

module _ (takes : Bool) (Unasked : Type 0) (Submits : Bytes → EntryStatus → Type 0) (i o : Passage) where
  module _ (old new : Past) where
    pub board_open : takes ≡ true → (result : Result Outcome ServeFault) → AnswersOpenLog GlobalValue Unasked Submits old new i o result
        → ServesOpen (board_idle takes old new Unasked) (board_courses takes old new Unasked Submits) i o result
    board_open is result serves =
        subst (λ (b : Bool). ServesOpen (board_idle b old new Unasked) (board_courses b old new Unasked Submits) i o result) (sym is) serves

    pub board_closed : takes ≡ false → (answered : Result (Option ℕ) ServeFault) (result : Result Outcome ServeFault) → result ≡ outcome_of answered
        → Serves (new ≡ old) (Exchange (new ≡ old) (LogDecides GlobalValue old new)) i o answered
        → ServesOpen (board_idle takes old new Unasked) (board_courses takes old new Unasked Submits) i o result
    board_closed is answered result outcome serves =
        subst (λ (b : Bool). ServesOpen (board_idle b old new Unasked) (board_courses b old new Unasked Submits) i o result) (sym is)
        (subst (ServesOpen (new ≡ old) (AtOnce (Exchange (new ≡ old) (LogDecides GlobalValue old new))) i o) (sym outcome)
        (at_once (new ≡ old) (Exchange (new ≡ old) (LogDecides GlobalValue old new)) i o answered serves))

  module _ (honest : Bool) (held : Held) (MayFail : Resource → ShelfFault → Type 0) where
    pub shelf_open : takes ≡ true → (result : Result Outcome ServeFault) → AnswersOpenShelf GlobalValue Unasked Submits honest held MayFail i o result
        → ServesOpen (shelf_idle takes Unasked) (shelf_courses takes honest held MayFail Unasked Submits) i o result
    shelf_open is result serves =
        subst (λ (b : Bool). ServesOpen (shelf_idle b Unasked) (shelf_courses b honest held MayFail Unasked Submits) i o result) (sym is) serves

    pub shelf_closed : takes ≡ false → (answered : Result (Option ℕ) ServeFault) (result : Result Outcome ServeFault) → result ≡ outcome_of answered
        → Serves (Unit {0}) (Exchange (Unit {0}) (ShelfDecides GlobalValue honest held MayFail)) i o answered
        → ServesOpen (shelf_idle takes Unasked) (shelf_courses takes honest held MayFail Unasked Submits) i o result
    shelf_closed is answered result outcome serves =
        subst (λ (b : Bool). ServesOpen (shelf_idle b Unasked) (shelf_courses b honest held MayFail Unasked Submits) i o result) (sym is)
        (subst (ServesOpen (Unit {0}) (AtOnce (Exchange (Unit {0}) (ShelfDecides GlobalValue honest held MayFail))) i o) (sym outcome)
        (at_once (Unit {0}) (Exchange (Unit {0}) (ShelfDecides GlobalValue honest held MayFail)) i o answered serves))

-- ---- a witness

module _ (Idle : Type 0) (Courses Wider : Bytes → Option Course → Type 0) (i o : Passage) (more : (input : Bytes) (c : Option Course) → Courses input c → Wider input c) where
  came_so : (c : Option Course) → Came Courses i c → Came Wider i c
  came_so c came = record { bytes = came.bytes; ended = came.ended; gave = came.gave; so = λ input may. more input c (came.so input may) }

  took_so : (result : Result Outcome ServeFault) → Took Courses i o result → Took Wider i o result
  took_so result took = record { course = took.course; came = came_so (Some took.course) took.came; takes = took.takes }

  -- by what leads to more
  widen : (result : Result Outcome ServeFault) → ServesOpen Idle Courses i o result → ServesOpen (Unit {0}) Wider i o result
  widen (Ok Nothing) (came, none) = (came_so None came, none)
  widen (Ok (Answered status)) took = took_so (Ok (Answered status)) took
  widen (Ok Later) took = took_so (Ok Later) took
  widen (Ok Misplaced) took = took_so (Ok Misplaced) took
  widen (Err Read) (failed, none, idle) = (failed, none, tt)
  widen (Err Write) took = took_so (Err Write) took

module _ (H : Digest) (book : List Witnessed) (time : ℕ) (saved saved_after : Saved) (i o : Passage) where
  abbrev Decided : Bytes → Option Answer → Type 0
  Decided = Exchange (saved_after ≡ saved) (WitnessDecides (saved_after ≡ saved) (Replies H book time saved saved_after))

  pub witness_answers : (answered : Result (Option ℕ) ServeFault) (result : Result Outcome ServeFault) → result ≡ outcome_of answered
      → Serves (saved_after ≡ saved) Decided i o answered → ServesOpen (Unit {0}) (witness_courses H book) i o result
  witness_answers answered result outcome serves =
      subst (ServesOpen (Unit {0}) (witness_courses H book) i o) (sym outcome)
      (widen (saved_after ≡ saved) (AtOnce Decided) (witness_courses H book) i o (λ input c is. (time, saved, saved_after, is)) (outcome_of answered)
      (at_once (saved_after ≡ saved) Decided i o answered serves))
