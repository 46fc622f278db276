-- A response that is returned has a wanted status.
use Rattle.std.proofs.Common.{◌≡◌, ℕ, List, [], Contains, Option, Ok, Err, append-nil, ap, refl, subst, sym, inl, inr}
use Rattle.httparse.specs.Grammar.{ResponseHead, status_code}
use Rattle.tl_device.specs.Device.{Passage}
use Rattle.tl_http.specs.FieldValues.{fields_of}
use Rattle.tl_http.specs.Fields.{HasFraming, IsPlain}
use Rattle.tl_http.specs.Get.{Receives}
use Rattle.tl_http.specs.Post.{Asked, Given, Posts, Replied, Replies, ReplyDecides, field_value, with_head}
use Rattle.tl_http.specs.Response.{Begins, Begun, Outcome, Unless, UnlessSome}
use Rattle.tl_http.specs.declared.fault.HttpFault.{HttpFault}
use Rattle.tl_http.specs.declared.fault.HttpFault.TheVariants as get
use Rattle.tl_http.specs.declared.framing.Framing.{Framing}

-- an outcome that is a response
abbrev given_one : Given → Replied
given_one given = Ok given

-- a row of the table that gives a fault isn't the one that gave a response
past : (P R : Type 0) (given : Given) (why : HttpFault) → Unless P (given_one given ≡ Err why) R → P × R
past P R given why (inl fault) = let e = fault.1 in absurd (cc)
past P R given why (inr so) = so

past_some : (A : Type 0) (such rest : A → Type 0) (given : Given) (why : HttpFault) → UnlessSome such (given_one given ≡ Err why) rest → (a : A) × such a × rest a
past_some A such rest given why (inl fault) = let e = fault.1 in absurd (cc)
past_some A such rest given why (inr so) = so

-- a response made of its parts
parts : ℕ → Option (List ℕ) → List ℕ → Given
parts status field body = record { status = status; field = field; body = body }

-- the head's status is the response's
head_status : (name : List ℕ) (head : ResponseHead) (body : Outcome) (given : Given) → given_one given ≡ with_head name head body → status_code head ≡ given.status
unfolding parts
head_status name head (Ok body) given same =
    let e : given ≡ parts (status_code head) (field_value name head) body = cc in
    sym (ap (λ (g : Given). g.status) e)
head_status name head (Err fault) given same = absurd (cc)

reply_status : (name : List ℕ) (limit : ℕ) (b : Begun) (framing : Framing) (given : Given) → ReplyDecides name limit b framing (Ok given) → status_code b.head ≡ given.status
reply_status name limit b framing given (inl none) = let e = none.0 in absurd (cc)
reply_status name limit b framing given (inr (body, decides, same)) = head_status name b.head body given same

replies_wanted : (statuses name : List ℕ) (limit : ℕ) (input : List ℕ) (given : Given) → Replies statuses name limit input (Ok given) → Contains statuses given.status
replies_wanted statuses name limit input given decided =
    let b = past_some Begun (Begins input) _ given get.NoHead decided in
    let head : ResponseHead = b.0.head in
    let version = past _ _ given get.Version b.2 in
    let wanted = past (Contains statuses (status_code head)) _ given (get.Status (status_code head)) version.1 in
    let plain = past (IsPlain head.minor (fields_of head.fields)) _ given get.Encoded wanted.1 in
    let framed = past_some Framing (HasFraming (fields_of head.fields)) (λ f. ReplyDecides name limit b.0 f (Ok given)) given get.BadLength plain.1 in
    subst (λ (s : ℕ). Contains statuses s) (reply_status name limit b.0 framed.0 given framed.2) wanted.0

receives_wanted : (statuses name : List ℕ) (limit : ℕ) (i : Passage) (given : Given) → Receives (Replies statuses name limit) i (Ok given) → Contains statuses given.status
receives_wanted statuses name limit i given (inl read) = let e = read.0 in absurd (cc)
receives_wanted statuses name limit i given (inr came) =
    replies_wanted statuses name limit came.bytes given
    (came.so came.bytes (record { more = []; joined = sym (append-nil came.bytes); none = λ _. refl }))

pub posts_wanted : (a : Asked) (limit : ℕ) (i o : Passage) (given : Given) → Posts a limit i o (Ok given) → Contains a.statuses given.status
posts_wanted a limit i o given (inl bad) = let e = bad.1.0 in absurd (cc)
posts_wanted a limit i o given (inr (asked, inl write)) = let e = write.0 in absurd (cc)
posts_wanted a limit i o given (inr (asked, inr sent)) = receives_wanted a.statuses a.field limit i given sent.1
