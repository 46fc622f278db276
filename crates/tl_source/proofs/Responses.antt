-- What the response of an exchange is.
use Rattle.std.proofs.Common.{◌≡◌, ◌⊎◌, ℕ, ◌≤◌, List, [], ◌∷◌, Contains, Option, None, Ok, Err, append-nil, ap, false, length, refl, subst, sym, inl, inr}
use Rattle.httparse.specs.Grammar.{ResponseHead, status_code}
use Rattle.tl_device.specs.Device.{Passage}
use Rattle.tl_http.specs.Exchange.{Answers, Exchanges, Sought}
use Rattle.tl_http.specs.FieldValues.{fields_of}
use Rattle.tl_http.specs.Fields.{HasFraming, IsPlain}
use Rattle.tl_http.specs.Get.{Receives}
use Rattle.tl_http.specs.Message.{IsSendable, Sent}
use Rattle.tl_http.specs.Persistence.{body_framing}
use Rattle.tl_http.specs.Post.{Given, LacksField, Replied, ReplyDecides, field_value, with_head}
use Rattle.tl_http.specs.Response.{Begins, Begun, BodyDecides, Outcome, Responds, Unless, UnlessSome}
use Rattle.tl_http.specs.declared.fault.HttpFault.{HttpFault}
use Rattle.tl_http.specs.declared.fault.HttpFault.TheVariants as http
use Rattle.tl_http.proofs.ExchangeLemmas.{only_status}
use Rattle.tl_http.proofs.Fits.{gets_fits}
use Rattle.tl_source.specs.Asking.{wanted_up_to}

-- an outcome that is a response
abbrev given_one : Given → Replied
given_one given = Ok given

-- a row of the table that gives a fault isn't the one that gave a response
past : (P R : Type 0) (given : Given) (why : HttpFault) → Unless P (given_one given ≡ Err why) R → P × R
past P R given why (inl fault) = let e = fault.1 in absurd (cc)
past P R given why (inr so) = so

past_some : (A : Type 0) (such rest : A → Type 0) (given : Given) (why : HttpFault) → UnlessSome such (given_one given ≡ Err why) rest → (a : A) × such a × rest a
past_some A such rest given why (inl fault) = let e = fault.1 in absurd (cc)
past_some A such rest given why (inr so) = so

-- a response made of its parts
parts : ℕ → Option (List ℕ) → List ℕ → Given
parts status field body = record { status = status; field = field; body = body }

-- the parts of a response whose head is this
head_status : (name : List ℕ) (head : ResponseHead) (body : Outcome) (given : Given) → given_one given ≡ with_head name head body → status_code head ≡ given.status
unfolding parts
head_status name head (Ok body) given same =
    let e : given ≡ parts (status_code head) (field_value name head) body = cc in
    sym (ap (λ (g : Given). g.status) e)
head_status name head (Err fault) given same = absurd (cc)

head_body : (name : List ℕ) (head : ResponseHead) (Decides : Outcome → Type 0) (body : Outcome) (given : Given)
    → Decides body → given_one given ≡ with_head name head body → Decides (Ok given.body)
unfolding parts
head_body name head Decides (Ok body) given decides same =
    let e : given ≡ parts (status_code head) (field_value name head) body = cc in
    subst (λ (b : List ℕ). Decides (Ok b)) (sym (ap (λ (g : Given). g.body) e)) decides
head_body name head Decides (Err fault) given decides same = absurd (cc)

-- a reply whose body is decided by this
abbrev ReplyBy : List ℕ → ResponseHead → (Outcome → Type 0) → Given → Type 0
ReplyBy name head Decides given =
    LacksField name head (Ok given) ⊎ ((body : Outcome) × Decides body × (given_one given ≡ with_head name head body))

reply_status : (name : List ℕ) (head : ResponseHead) (Decides : Outcome → Type 0) (given : Given) → ReplyBy name head Decides given → status_code head ≡ given.status
reply_status name head Decides given (inl none) = let e = none.0 in absurd (cc)
reply_status name head Decides given (inr (body, decides, same)) = head_status name head body given same

reply_body : (name : List ℕ) (head : ResponseHead) (Decides : Outcome → Type 0) (given : Given) → ReplyBy name head Decides given → Decides (Ok given.body)
reply_body name head Decides given (inl none) = let e = none.0 in absurd (cc)
reply_body name head Decides given (inr (body, decides, same)) = head_body name head Decides body given decides same

-- ---- the status

answers_wanted : (s : Sought) (input : List ℕ) (given : Given) → Answers s input (Ok given) → Contains s.statuses given.status
answers_wanted s input given decided =
    let b = past_some Begun (Begins input) _ given http.NoHead decided in
    let head : ResponseHead = b.0.head in
    let version = past _ _ given http.Version b.2 in
    let wanted = past (Contains s.statuses (status_code head)) _ given (http.Status (status_code head)) version.1 in
    let plain = past (IsPlain head.minor (fields_of head.fields)) _ given http.Encoded wanted.1 in
    let framed = past_some _ (HasFraming (fields_of head.fields)) (λ f. ReplyDecides s.field s.limit b.0 (body_framing (status_code head) f) (Ok given)) given http.BadLength plain.1 in
    subst (λ (n : ℕ). Contains s.statuses n) (reply_status s.field head (λ r. BodyDecides s.limit (body_framing (status_code head) framed.0) b.0.rest r) given framed.2) wanted.0

-- what an exchange with a response received
sent_row : (m : Sent) (s : Sought) (i o : Passage) (given : Given) → Exchanges m s i o (Ok given) → IsSendable m × Receives (Answers s) i (Ok given)
sent_row m s i o given (inl bad) = let e = bad.1.0 in absurd (cc)
sent_row m s i o given (inr (may, inl memory)) = let e = memory.0 in absurd (cc)
sent_row m s i o given (inr (may, inr (inl write))) = let e = write.0 in absurd (cc)
sent_row m s i o given (inr (may, inr (inr sent))) = (may, sent.1)

received_wanted : (s : Sought) (i : Passage) (given : Given) → Receives (Answers s) i (Ok given) → Contains s.statuses given.status
received_wanted s i given (inl read) = let e = read.0 in absurd (cc)
received_wanted s i given (inr came) =
    answers_wanted s came.bytes given (came.so came.bytes (record { more = []; joined = sym (append-nil came.bytes); none = λ _. refl }))

-- a response that is returned has a wanted status
pub exchange_wanted : (m : Sent) (s : Sought) (i o : Passage) (given : Given) → Exchanges m s i o (Ok given) → Contains s.statuses given.status
exchange_wanted m s i o given exchanges = received_wanted s i given (sent_row m s i o given exchanges).1

-- ---- the length of the body

answers_responds : (limit : ℕ) (input : List ℕ) (given : Given) → Answers (wanted_up_to limit) input (Ok given) → Responds limit input (Ok given.body)
answers_responds limit input given decided =
    let b = past_some Begun (Begins input) _ given http.NoHead decided in
    let head : ResponseHead = b.0.head in
    let version = past _ _ given http.Version b.2 in
    let wanted = past (Contains (200 ∷ []) (status_code head)) _ given (http.Status (status_code head)) version.1 in
    let plain = past (IsPlain head.minor (fields_of head.fields)) _ given http.Encoded wanted.1 in
    let framed = past_some _ (HasFraming (fields_of head.fields)) (λ f. ReplyDecides [] limit b.0 (body_framing (status_code head) f) (Ok given)) given http.BadLength plain.1 in
    let is : status_code head ≡ 200 = only_status (status_code head) wanted.0 in
    let body = reply_body [] head (λ r. BodyDecides limit (body_framing (status_code head) framed.0) b.0.rest r) given framed.2 in
    -- with status 200 the fields frame the body
    let framed_so = subst (λ (n : ℕ). BodyDecides limit (body_framing n framed.0) b.0.rest (Ok given.body)) is body in
    inr (b.0, b.1, inr (version.0, inr (is, inr (plain.0, inr (framed.0, framed.1, framed_so)))))

-- a writer of which nothing is known
unknown : Passage
unknown = record { old = None; new = None; had_failed = false; has_failed = false }

received_fits : (m : Sent) (limit : ℕ) (i : Passage) (given : Given) → IsSendable m → Receives (Answers (wanted_up_to limit)) i (Ok given) → length given.body ≤ limit
unfolding unknown
received_fits m limit i given may (inl read) = let e = read.0 in absurd (cc)
received_fits m limit i given may (inr came) =
    gets_fits m.target m.target limit i unknown given.body (inr (
      record { host_visible = may.visible; target_visible = may.visible; path = may.path; rooted = may.rooted },
      inr (
        record { appended = tt; steady = refl },
        inr (record {
          bytes = came.bytes;
          ended = came.ended;
          gave = came.gave;
          so = λ input may_be. answers_responds limit input given (came.so input may_be);
        }),
      ),
    ))

-- a body that is returned has at most as many bytes as its request allows
pub exchange_fits : (m : Sent) (limit : ℕ) (i o : Passage) (given : Given) → Exchanges m (wanted_up_to limit) i o (Ok given) → length given.body ≤ limit
exchange_fits m limit i o given exchanges =
    let row = sent_row m (wanted_up_to limit) i o given exchanges in
    received_fits m limit i given row.0 row.1
