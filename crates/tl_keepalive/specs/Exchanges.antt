-- The requests and the answers of one connection, one at a time (RFC 9112, section 9.3.2).
use Rattle.std.specs.Prelude.{◌≡◌, ◌≢◌, ◌⊎◌, ℕ, Bool, true, false, [], ◌++◌, Option, Some, None, drop}
use Rattle.tl_device.specs.Reading.{MayBe}
use Rattle.tl_hash.specs.Bytes.{Bytes}
use Rattle.tl_server.specs.Adding.{Course, Misplace, Postpone, Reply}
use Rattle.tl_server.specs.Answer.{Answer, answer_text, bare}
use Rattle.tl_keepalive.specs.KeepAlive.{Stays, kept_text}
use Rattle.tl_keepalive.specs.declared.turn.Turn.{Turn}
use Rattle.tl_keepalive.specs.declared.turn.Turn.TheVariants.{Answered, Misplaced, Later, More, Nothing, Unsent, Failed}

-- a connection: what came and isn't answered yet, whether nothing more comes, and what of the answers isn't sent yet
pub record Exchanges : Type 0 where
  pub came : Bytes
  pub ended : Bool
  pub unsent : Bytes

-- these bytes came
abbrev pub fed : Exchanges → Bytes → Exchanges
fed e bytes = record { came = e.came ++ bytes; ended = e.ended; unsent = e.unsent }

-- nothing more comes
abbrev pub closed : Exchanges → Exchanges
closed e = record { came = e.came; ended = true; unsent = e.unsent }

-- this many bytes of the answers were sent
abbrev pub sent : Exchanges → ℕ → Exchanges
sent e count = record { came = e.came; ended = e.ended; unsent = drop count e.unsent }

-- the first `end` bytes that came were answered with this text
abbrev pub answered : Exchanges → ℕ → Bytes → Exchanges
answered e end text = record { came = drop end e.came; ended = e.ended; unsent = text }

-- what came leads to this, whatever may follow
abbrev pub LeadsTo : (Bytes → Option Course → Type 0) → Exchanges → Option Course → Type 0
LeadsTo Courses e course = (input : Bytes) → MayBe e.came e.ended input → Courses input course

-- an answer is to be sent, after which the connection stays open: the next request begins behind this one
pub record Goes (Courses : Bytes → Option Course → Type 0) (may_stay : Bool) (a b : Exchanges) : Type 0 where
  pub answer : Answer
  pub end : ℕ
  pub led : LeadsTo Courses a (Some (Reply answer))
  pub allowed : may_stay ≡ true
  pub stays : Stays a.came answer.status end
  pub is : b ≡ answered a end (kept_text answer)

-- an answer is to be sent, and the connection is closed: it may not stay open, or can't
pub record Ends (Courses : Bytes → Option Course → Type 0) (may_stay : Bool) (a b : Exchanges) : Type 0 where
  pub answer : Answer
  pub led : LeadsTo Courses a (Some (Reply answer))
  pub closes : may_stay ≡ true → (end : ℕ) → ¬ (Stays a.came answer.status end)
  pub is : b ≡ answered a 0 (answer_text answer)

-- one attempt to answer the next request, once all answers before were sent. Idle says that nothing was
-- asked
abbrev pub Turns : Type 0 → (Bytes → Option Course → Type 0) → Bool → Exchanges → Exchanges → Turn → Type 0
Turns Idle Courses may_stay a b (Answered true) = (a.unsent ≡ []) × Goes Courses may_stay a b
Turns Idle Courses may_stay a b (Answered false) = (a.unsent ≡ []) × Ends Courses may_stay a b
Turns Idle Courses may_stay a b Misplaced =
    (a.unsent ≡ []) × LeadsTo Courses a (Some Misplace) × (b ≡ answered a 0 (answer_text (bare 500)))
Turns Idle Courses may_stay a b Later = LeadsTo Courses a (Some Postpone) × (b ≡ a)
Turns Idle Courses may_stay a b Nothing = LeadsTo Courses a None × (b ≡ a)
Turns Idle Courses may_stay a b More = (a.ended ≡ false) × Idle × (b ≡ a)
Turns Idle Courses may_stay a b Unsent = (a.unsent ≢ []) × (b ≡ a)
Turns Idle Courses may_stay a b Failed =
    ((a.ended ≡ true) ⊎ ((course : Course) × LeadsTo Courses a (Some course))) × (b ≡ a)
