-- From the steps of asking a witness to the whole.
use Rattle.std.proofs.Common.{◌≡◌, ◌⊎◌, ℕ, zero, suc, List, [], ◌∷◌, Contains, Ok, arith, inl, inr, subst, sym}
use Rattle.tl_http.specs.Post.{Given, Replied}
use Rattle.tl_source.specs.Calling.{MayExchange}
use Rattle.tl_source.proofs.Responses.{exchange_wanted}
use Rattle.tl_witness.specs.Request.{Body, body_text}
use Rattle.tl_feed.specs.Answer.{AnswerDecides, Answered}
use Rattle.tl_feed.specs.Asking.{MayAnswer, post_of, wanted}

-- the answer to a request with the body of a question
pub answers_so : (host target bytes : List ℕ) (question : Body) (reply : Replied) (r : Answered) → bytes ≡ body_text question
    → MayExchange (post_of host target bytes) wanted reply → AnswerDecides reply r → MayAnswer host target question r
answers_so host target bytes question reply r same exchange decides = record {
  reply = reply;
  exchange = subst (λ (b : List ℕ). MayExchange (post_of host target b) wanted reply) same exchange;
  decides = decides;
}

-- the statuses of responses that are accepted
pub two_statuses : (s : ℕ) → Contains (200 ∷ 409 ∷ []) s → (s ≡ 200) ⊎ (s ≡ 409)
two_statuses s (zero, within, is) = inl (sym is)
two_statuses s (suc zero, within, is) = inr (sym is)
two_statuses s (suc (suc k), within, is) = absurd (omega (arith, within))

pub taken_status : (host target bytes : List ℕ) (given : Given) → MayExchange (post_of host target bytes) wanted (Ok given)
    → (given.status ≡ 200) ⊎ (given.status ≡ 409)
taken_status host target bytes given exchange =
    two_statuses given.status (exchange_wanted (post_of host target bytes) wanted exchange.reader exchange.writer given exchange.exchanges)
