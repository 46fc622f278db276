-- What is known of a request to a witness that threads share, to which other requests may come before it (C2SP
-- tlog-witness, "add-checkpoint"). H is the digest function. The book is the one that was shared.
use Rattle.std.specs.Prelude.{◌≡◌, ℕ, ◌⊎◌, List, [], vec_items}
use Rattle.tl_hash.specs.Bytes.{Bytes, Digest}
use Rattle.tl_proof.specs.Acceptance.{Step}
use Rattle.tl_witness.specs.declared.reply.Reply.{Reply}
use Rattle.tl_witness.specs.Answers.{AsksForMemory}
use Rattle.tl_witness.specs.Book.{IsPlacedIn, IsSigned, Placed, asked_of}
use Rattle.tl_witness.specs.Cases.{UnlessSome}
use Rattle.tl_witness.specs.Decide.{Asked, Decides}
use Rattle.tl_witness.specs.Request.{IsRequest}
use Rattle.tl_witness.specs.Runs.{IsLater, IsLaterChain}
use Rattle.tl_witness.specs.Saver.{Saved}
use Rattle.tl_witness.specs.Witnessed.{Witnessed}

-- the reply, and the saver before and after
pub record Answer : Type 0 where
  pub status : ℕ
  pub body : Bytes
  pub saved : Saved
  pub saved_after : Saved

-- the answer with this reply
abbrev pub answer_of : {A : Type 0} → Reply A → Saved → Saved → Answer
answer_of reply saved saved_after = record { status = reply.status; body = vec_items reply.body; saved = saved; saved_after = saved_after }

-- the reply is this status with no body, and nothing was saved
abbrev pub RefusesAnswer : Answer → ℕ → Type 0
RefusesAnswer answer status = (answer.status ≡ status) × (answer.body ≡ []) × (answer.saved_after ≡ answer.saved)

-- The request is decided for this origin as it is when its turn comes: with its own verifiers and cosigner, and with
-- a chain that begins with the one that was shared.
pub record DecidesLater (H : Digest) (one : Witnessed) (asked : Asked) (answer : Answer) : Type 0 where
  pub now : Witnessed
  pub after : Witnessed
  pub later : IsLater H one now
  pub decided : Decides H asked (record {
    status = answer.status;
    body = answer.body;
    saved = answer.saved;
    saved_after = answer.saved_after;
    one = now;
    one_after = after;
  })

-- the cases of a request, in order; the first that applies decides
abbrev pub DecidesShared : Digest → List Witnessed → Bytes → ℕ → Answer → Type 0
DecidesShared H book body time answer =
    UnlessSome (IsRequest body) (RefusesAnswer answer 400) (λ request.
    UnlessSome (IsSigned request.note) (RefusesAnswer answer 400) (λ signed.
    UnlessSome (IsPlacedIn book signed.head.origin) (RefusesAnswer answer 404) (λ placed.
    DecidesLater H placed.one (asked_of request signed time) answer)))

-- the cases of a request, or 500 with nothing saved if memory was allocated for it
abbrev pub AnswersShared : Digest → List Witnessed → Bytes → ℕ → Answer → Type 0
AnswersShared H book body time answer = DecidesShared H book body time answer ⊎ (AsksForMemory body × RefusesAnswer answer 500)

-- this holds of some later chain of the origin
abbrev pub IsOfLaterChain : Digest → List Witnessed → Bytes → (List Step → Type 0) → Type 0
IsOfLaterChain H book origin IsSo = (placed : Placed) × IsPlacedIn book origin placed × (later : List Step) × IsLaterChain H placed.one.chain later × IsSo later
