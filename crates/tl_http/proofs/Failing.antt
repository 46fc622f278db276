-- A call failed, and its fault is returned.
use Rattle.std.proofs.Common.{◌≡◌, List, ℕ, sym, subst}
use Rattle.std.specs.Prelude.{Result, Ok, Err, IsErrAnd}
use Rattle.std.specs.declared.vec.Vec.{Vec}
use Rattle.tl_device.specs.Device.{Passage}
use Rattle.tl_http.specs.Exchange.{answered}
use Rattle.tl_http.specs.Get.{Receives}
use Rattle.tl_http.specs.Post.{Replied, replied}
use Rattle.tl_http.specs.Response.{Outcome, outcome}
use Rattle.tl_http.specs.declared.fault.HttpFault.{HttpFault}
use Rattle.tl_http.specs.declared.message.Response.{Response}
use Rattle.tl_http.specs.declared.request.Reply.{Reply}

-- the fault of a call
pub handed_on : {T : Type 0} (Holds : Result T HttpFault → Type 0) (r : Result T HttpFault) (fault : HttpFault)
    → IsErrAnd r (λ e. e ≡ fault) → Holds (Err fault) → Holds r
handed_on Holds (Ok done) fault is holds = absurd is
handed_on Holds (Err e) fault is holds = subst (λ (f : HttpFault). Holds (Err f)) (sym is) holds

-- why a body isn't read
pub no_outcome : {A : Type 0} (Decides : List ℕ → Outcome → Type 0) (i : Passage) (r : Result (Vec ℕ A) HttpFault) (fault : HttpFault)
    → IsErrAnd r (λ e. e ≡ fault) → Receives Decides i (Err fault) → Receives Decides i (outcome r)
no_outcome Decides i (Ok body) fault is received = absurd is
no_outcome Decides i (Err e) fault is received =
    subst (λ (f : HttpFault). Receives Decides i (Err f)) (sym is) received

-- why a reply isn't read
pub no_reply : {A : Type 0} (Decides : List ℕ → Replied → Type 0) (i : Passage) (r : Result (Reply A) HttpFault) (fault : HttpFault)
    → IsErrAnd r (λ e. e ≡ fault) → Receives Decides i (Err fault) → Receives Decides i (replied r)
no_reply Decides i (Ok reply) fault is received = absurd is
no_reply Decides i (Err e) fault is received =
    subst (λ (f : HttpFault). Receives Decides i (Err f)) (sym is) received

-- why an answer isn't read
pub no_answer : {A : Type 0} (Decides : List ℕ → Replied → Type 0) (i : Passage) (r : Result (Response A) HttpFault) (fault : HttpFault)
    → IsErrAnd r (λ e. e ≡ fault) → Receives Decides i (Err fault) → Receives Decides i (answered r)
no_answer Decides i (Ok response) fault is received = absurd is
no_answer Decides i (Err e) fault is received =
    subst (λ (f : HttpFault). Receives Decides i (Err f)) (sym is) received
