-- From the steps of reading a reply to the whole.
use Rattle.std.proofs.Common.{◌≡◌, ◌-◌, ◌<◌, ℕ, List, ◌++◌, Contains, Option, Some, Ok, Err, Bool, length, slice_range, take, drop, ap, refl, sym, ◌∙◌, inl, inr}
use Rattle.httparse.specs.declared.spans.HeaderSpan.{HeaderSpan}
use Rattle.httparse.specs.declared.spans.ResponseSpans.{ResponseSpans}
use Rattle.httparse.specs.Grammar.{ResponseHead, status_code}
use Rattle.httparse.specs.Spans.{IsResponseAt}
use Rattle.tl_device.specs.Device.{Passage}
use Rattle.tl_device.proofs.SendingLemmas.{over}
use Rattle.tl_http.specs.FieldValues.{values_of}
use Rattle.tl_http.specs.Get.{Receives}
use Rattle.tl_http.specs.Post.{Given, Replied, Replies, ReplyDecides, field_value, only_one, with_head}
use Rattle.tl_http.specs.Response.{BodyDecides, Outcome}
use Rattle.tl_http.specs.Inner.Heads.{TookHead, faulty}
use Rattle.tl_http.specs.declared.fault.HttpFault.{HttpFault}
use Rattle.tl_http.specs.declared.fault.HttpFault.TheVariants.{OutOfMemory, Read}
use Rattle.tl_http.specs.declared.taken.Taken.{Taken}
use Rattle.tl_http.proofs.ExchangeLemmas.{body_after, fields_at, taken_alone}

-- the value that was looked for among the spans is that of the head's field
pub field_at : (part : List ℕ) (headers : List HeaderSpan) (spans : ResponseSpans) (head : ResponseHead) (name : List ℕ) → IsResponseAt part headers spans head
    → only_one (values_of name (fields_at part headers spans)) ≡ field_value name head
field_at part headers spans head name at = ap (λ (l : List (List ℕ × List ℕ)). only_one (values_of name l)) at.fields

-- an allocation for that value failed
pub no_field : (statuses name : List ℕ) (limit : ℕ) (i : Passage) (buf : List ℕ) (headers : List HeaderSpan) (taken : Taken)
    → TookHead (Contains statuses) i buf headers taken
    → (value : List ℕ) × (only_one (values_of name (fields_at (slice_range buf taken.start taken.len) headers taken.spans)) ≡ Some value) × (0 < length value)
    → Receives (Replies statuses name limit) i (Err OutOfMemory)
no_field statuses name limit i buf headers taken took refused =
    let part : List ℕ = slice_range buf taken.start taken.len in
    let same = field_at part headers taken.spans took.headed.of.0 name took.headed.of.1 in
    taken_alone Given (Contains statuses) (λ b framing r. ReplyDecides name limit b framing r) i buf headers taken.start taken.len taken.spans taken.framing (Err OutOfMemory) took.headed took.is
    (λ rest. inl (refl, (refused.0, sym same ∙ refused.1, refused.2)))

-- an outcome that is a fault, of a response
abbrev pub reply_fault : HttpFault → Replied
reply_fault fault = Err fault

-- the same fault
pub one_read : (fault : HttpFault) → faulty fault ≡ Err Read → reply_fault fault ≡ Err Read
one_read fault same = let e : fault ≡ Read = cc in ap reply_fault e

-- the body has a fault
pub no_body : (statuses name : List ℕ) (limit : ℕ) (a b c : Option (List ℕ)) (f g h : Bool) (buf : List ℕ) (headers : List HeaderSpan) (taken : Taken) (fault : HttpFault)
    → TookHead (Contains statuses) (over a b f g) buf headers taken
    → Receives (λ rest r. BodyDecides limit taken.framing (take (length (slice_range buf taken.start taken.len) - taken.spans.len) (drop taken.spans.len (slice_range buf taken.start taken.len)) ++ rest) r)
    (over b c g h) (Err fault)
    → Receives (Replies statuses name limit) (over a c f h) (Err fault)
no_body statuses name limit a b c f g h buf headers taken fault took received =
    body_after Given (Contains statuses) (λ b framing r. ReplyDecides name limit b framing r) (BodyDecides limit taken.framing) a b c f g h buf headers taken.start taken.len taken.spans taken.framing
    (faulty fault) (reply_fault fault) took.headed took.is (one_read fault) (λ rest decides. inr (faulty fault, decides, refl)) received

-- an outcome that is a body
abbrev pub body_of : List ℕ → Outcome
body_of body = Ok body

-- a response
abbrev pub given : ℕ → Option (List ℕ) → List ℕ → Replied
given status field body = Ok (record { status = status; field = field; body = body })

-- the head, the value and the body came
pub whole_reply : (statuses name : List ℕ) (limit : ℕ) (a b c : Option (List ℕ)) (f g h : Bool) (buf : List ℕ) (headers : List HeaderSpan) (taken : Taken) (field : Option (List ℕ)) (body : List ℕ)
    → TookHead (Contains statuses) (over a b f g) buf headers taken
    → field ≡ only_one (values_of name (fields_at (slice_range buf taken.start taken.len) headers taken.spans))
    → Receives (λ rest r. BodyDecides limit taken.framing (take (length (slice_range buf taken.start taken.len) - taken.spans.len) (drop taken.spans.len (slice_range buf taken.start taken.len)) ++ rest) r)
    (over b c g h) (Ok body)
    → Receives (Replies statuses name limit) (over a c f h) (Ok (record { status = taken.spans.code; field = field; body = body }))
whole_reply statuses name limit a b c f g h buf headers taken field body took copied received =
    let part : List ℕ = slice_range buf taken.start taken.len in
    let head : ResponseHead = took.headed.of.0 in
    let at = took.headed.of.1 in
    let code : taken.spans.code ≡ status_code head = at.code in
    let value : field ≡ field_value name head = copied ∙ field_at part headers taken.spans head name at in
    let same : given taken.spans.code field body ≡ with_head name head (body_of body) =
    ap (λ (s : ℕ). given s field body) code ∙ ap (λ (v : Option (List ℕ)). given (status_code head) v body) value in
    body_after Given (Contains statuses) (λ b framing r. ReplyDecides name limit b framing r) (BodyDecides limit taken.framing) a b c f g h buf headers taken.start taken.len taken.spans taken.framing
    (body_of body) (given taken.spans.code field body) took.headed took.is (λ same. absurd (cc)) (λ rest decides. inr (body_of body, decides, same)) received
