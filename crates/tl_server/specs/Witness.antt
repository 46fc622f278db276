-- How a witness answers a request (C2SP tlog-witness, "add-checkpoint").
use Rattle.std.specs.Prelude.{◌≡◌, ◌⊎◌, ℕ, ◌<◌, ◌≤◌, List, [], ◌==◌, if◌then◌else◌, codes}
use Rattle.tl_hash.specs.Bytes.{Bytes, Digest}
use Rattle.tl_witness.specs.Cases.{Unless, UnlessSome}
use Rattle.tl_witness.specs.Saver.{Saved}
use Rattle.tl_witness.specs.Shared.{AnswersShared}
use Rattle.tl_witness.specs.Witnessed.{Witnessed}
use Rattle.tl_server.specs.Answer.{Answer, bare, not_allowed, plain_text, log_size}
use Rattle.tl_http.specs.FieldValues.{fields_of}
use Rattle.tl_server.specs.Head.{IsSized, HasBody}
use Rattle.tl_server.specs.Exchange.{Begun}

-- the media type of a reply's body
abbrev pub reply_kind : ℕ → Bytes
reply_kind status = if status == 409 then log_size else plain_text

-- the answer with the witness's reply
abbrev pub reply_answer : ℕ → Bytes → Answer
reply_answer status body = record { status = status; allow = []; kind = reply_kind status; body = body }

-- a reply that a witness shared by threads may give to this body at this time, with the saver before and after. H is
-- the digest function, and `book` has the origins with which the witness was opened
abbrev pub Replies : Digest → List Witnessed → ℕ → Saved → Saved → Bytes → Answer → Type 0
Replies H book time saved saved_after body a =
    (status : ℕ) × (text : Bytes) × (a ≡ reply_answer status text)
    × AnswersShared H book body time (record { status = status; body = text; saved = saved; saved_after = saved_after })

-- the last cases of the table, for a body of n bytes
abbrev pub BodyAnswers : Type 0 → (Bytes → Answer → Type 0) → ℕ → Bytes → Answer → Type 0
BodyAnswers Idle ReplyIs n rest a =
    ((0 < n) × Idle × (a ≡ bare 500))
    ⊎ UnlessSome (HasBody rest n) (Idle × (a ≡ bare 400)) (λ body.
    ReplyIs body a)

-- how a request to a witness is answered, by the first case that applies; Idle says that nothing was saved:
--     404  the target isn't /add-checkpoint
--     405  the method isn't POST
--     400  the fields don't say how long the body is
--     413  the body has more than 1,048,576 bytes
--     500  it has some, and an allocation for them failed
--     400  the input ends before the body does
--     200, 400, 403, 404, 409, 422, 500  else, as the witness replies to the body
abbrev pub WitnessAnswers
    : Type 0 → (Bytes → Answer → Type 0) → Bytes → Bytes → List (Bytes × Bytes) → Bytes → Answer → Type 0
WitnessAnswers Idle ReplyIs method target fields rest a =
    Unless (target ≡ codes "/add-checkpoint") (Idle × (a ≡ bare 404))
    (Unless (method ≡ codes "POST") (Idle × (a ≡ not_allowed (codes "POST")))
    (UnlessSome (IsSized fields) (Idle × (a ≡ bare 400)) (λ n.
    Unless (n ≤ 1048576) (Idle × (a ≡ bare 413))
    (BodyAnswers Idle ReplyIs n rest a))))

-- the answer to a request with this head and what follows it
abbrev pub WitnessDecides : Type 0 → (Bytes → Answer → Type 0) → Begun → Answer → Type 0
WitnessDecides Idle ReplyIs b a =
    WitnessAnswers Idle ReplyIs b.head.method b.head.target (fields_of b.head.fields) b.rest a
