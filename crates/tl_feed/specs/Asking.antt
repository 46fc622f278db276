-- One request to a witness over HTTP.
use Rattle.std.specs.Prelude.{◌≡◌, ◌⊎◌, ℕ, [], ◌∷◌, ◌++◌, Result, Ok, Err, codes}
use Rattle.tl_hash.specs.Bytes.{Bytes}
use Rattle.tl_http.specs.Exchange.{Sought}
use Rattle.tl_http.specs.Message.{Sent}
use Rattle.tl_http.specs.Post.{Replied}
use Rattle.tl_source.specs.Asking.{IsFront}
use Rattle.tl_source.specs.Calling.{MayExchange}
use Rattle.tl_source.specs.declared.url.Url.{Url}
use Rattle.tl_witness.specs.Request.{Body, body_text}
use Rattle.tl_feed.specs.Answer.{AnswerDecides, Answered, answered}
use Rattle.tl_feed.specs.declared.fault.AskFault.TheVariants.{OutOfMemory}
use Rattle.tl_feed.specs.declared.question.WitnessAnswer.{WitnessAnswer}
use Rattle.tl_feed.specs.declared.unasked.Unasked.{Unasked}
use Rattle.tl_feed.specs.declared.unasked.Unasked.TheVariants.{Ask, Device, Growth, Other, Restless}

-- the target under an address with this prefix to which questions are posted (C2SP tlog-witness, "add-checkpoint")
pub record IsTarget (prefix target : Bytes) : Type 0 where
  pub front : Bytes
  pub cut : IsFront prefix front
  pub is : target ≡ front ++ codes "/add-checkpoint"

-- a POST request with the field Host and this body
abbrev pub post_of : Bytes → Bytes → Bytes → Sent
post_of host target body =
    record { method = codes "POST"; target = target; fields = (codes "Host", host) ∷ []; body = body }

-- the most bytes of a response's body
abbrev pub most_answer : ℕ
most_answer = 16384

-- the responses that are wanted, with their type: those with status 200 or 409
abbrev pub wanted : Sought
wanted = record { statuses = 200 ∷ 409 ∷ []; field = codes "Content-Type"; limit = most_answer }

-- one exchange, of a POST request with this question, may have this answer
pub record MayAnswer (host target : Bytes) (question : Body) (r : Answered) : Type 0 where
  pub reply : Replied
  pub exchange : MayExchange (post_of host target (body_text question)) wanted reply
  pub decides : AnswerDecides reply r

-- the result of asking a witness at this target of a host: an answer that one exchange may have, or a refusal that one
-- may have; or memory ran out, or the witness can't be reached or gave no answer in time
abbrev pub AsksAt : {A : Type 0} → Bytes → Bytes → Body → Result (WitnessAnswer A) Unasked → Type 0
AsksAt host target question (Ok answer) = MayAnswer host target question (answered (Ok answer))
AsksAt host target question (Err (Ask fault)) = (fault ≡ OutOfMemory) ⊎ MayAnswer host target question (Err fault)
AsksAt host target question (Err (Device why)) = Unit {0}
AsksAt host target question (Err (Growth why)) = ⊥
AsksAt host target question (Err Restless) = ⊥
AsksAt host target question (Err Other) = ⊥

-- the result of asking the witness at an address
abbrev pub Asks : {A : Type 0} → Url → Body → Result (WitnessAnswer A) Unasked → Type 0
Asks url question r =
    (r ≡ Err (Ask OutOfMemory))
    ⊎ ((target : Bytes) × IsTarget url.prefix.now target × AsksAt url.authority.now target question r)
