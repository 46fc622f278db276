-- From the steps of reading an answer over a connection that may be kept to the whole.
use Rattle.std.proofs.Common.{◌≡◌, ◌≢◌, ◌-◌, ◌<◌, ◌≤◌, ℕ, List, ◌++◌, Contains, Option, Some, Ok, Err, Bool, IsTrue, false, length, length-append, slice_range, take, drop, ap, append-nil, arith, refl, subst, sym, ◌∙◌, inl, inr}
use Rattle.std.specs.Prelude.{◌↔◌}
use Rattle.std.proofs.lemmas.List.{drop_all, take_rest}
use Rattle.httparse.specs.declared.spans.HeaderSpan.{HeaderSpan}
use Rattle.httparse.specs.Grammar.{ResponseHead, status_code}
use Rattle.tl_device.specs.Device.{Passage}
use Rattle.tl_device.specs.Reading.{Gave}
use Rattle.tl_device.proofs.SendingLemmas.{over}
use Rattle.tl_http.specs.FieldValues.{fields_of, values_of}
use Rattle.tl_http.specs.Exchange.{Answers, LeavesOpen, Sought}
use Rattle.tl_http.specs.Fields.{HasFraming}
use Rattle.tl_http.specs.Get.{Receives}
use Rattle.tl_http.specs.Persistence.{Persists, body_framing}
use Rattle.tl_http.specs.Post.{Given, Replied, ReplyDecides, field_value, only_one, with_head}
use Rattle.tl_http.specs.Response.{Begins, Begun, BodyDecides, Outcome}
use Rattle.tl_http.specs.Inner.Bodies.{FillsSized, FullBody}
use Rattle.tl_http.specs.Inner.Heads.{TookHead, faulty}
use Rattle.tl_http.specs.declared.fault.HttpFault.{HttpFault}
use Rattle.tl_http.specs.declared.fault.HttpFault.TheVariants.{OutOfMemory}
use Rattle.tl_http.specs.declared.framing.Framing.{Framing}
use Rattle.tl_http.specs.declared.framing.Framing.TheVariants.{Sized, UntilEnd, Chunked}
use Rattle.tl_http.specs.declared.taken.Taken.{Taken}
use Rattle.tl_http.proofs.BodyLemmas.{gave_then}
use Rattle.tl_http.proofs.ExchangeLemmas.{body_after, decides_alone, fields_at, taken_alone, whole_begins}
use Rattle.tl_http.proofs.ReplyLemmas.{body_of, field_at, given, one_read, reply_fault}

-- a head, what follows it and its framing decide
abbrev pub Decides : Sought → Begun → Framing → Replied → Type 0
Decides s b framing r = ReplyDecides s.field s.limit b (body_framing (status_code b.head) framing) r

-- the part of the body that came with the head
abbrev pub begun_of : List ℕ → Taken → List ℕ
begun_of buf taken =
    take (length (slice_range buf taken.start taken.len) - taken.spans.len) (drop taken.spans.len (slice_range buf taken.start taken.len))

-- the head alone decides
pub answer_alone : (s : Sought) (i : Passage) (fault : HttpFault) → Receives (λ input r. Rattle.tl_http.specs.Response.ResponseDecides (Contains s.statuses) (λ _ _. ⊥) input r) i (faulty fault)
    → Receives (Answers s) i (reply_fault fault)
answer_alone s i fault received = decides_alone Given (Contains s.statuses) (λ b framing r. Decides s b framing r) i fault received

-- an allocation for the wanted value failed
pub answer_no_field : (s : Sought) (i : Passage) (buf : List ℕ) (headers : List HeaderSpan) (taken : Taken) → TookHead (Contains s.statuses) i buf headers taken
    → (value : List ℕ) × (only_one (values_of s.field (fields_at (slice_range buf taken.start taken.len) headers taken.spans)) ≡ Some value) × (0 < length value)
    → Receives (Answers s) i (Err OutOfMemory)
answer_no_field s i buf headers taken took refused =
    let same = field_at (slice_range buf taken.start taken.len) headers taken.spans took.headed.of.0 s.field took.headed.of.1 in
    taken_alone Given (Contains s.statuses) (λ b framing r. Decides s b framing r) i buf headers taken.start taken.len taken.spans taken.framing (Err OutOfMemory) took.headed took.is
    (λ rest. inl (refl, (refused.0, sym same ∙ refused.1, refused.2)))

-- the framing by the status that was read is the framing by the head's status
of_head : (limit : ℕ) (code status : ℕ) (framing : Framing) (rest : List ℕ) (body : Outcome) → code ≡ status
    → BodyDecides limit (body_framing code framing) rest body → BodyDecides limit (body_framing status framing) rest body
of_head limit code status framing rest body same decides = subst (λ (n : ℕ). BodyDecides limit (body_framing n framing) rest body) same decides

-- the body has a fault
pub answer_no_body : (s : Sought) (a b c : Option (List ℕ)) (f g h : Bool) (buf : List ℕ) (headers : List HeaderSpan) (taken : Taken) (fault : HttpFault)
    → TookHead (Contains s.statuses) (over a b f g) buf headers taken
    → Receives (λ rest r. BodyDecides s.limit (body_framing taken.spans.code taken.framing) (begun_of buf taken ++ rest) r) (over b c g h) (Err fault)
    → Receives (Answers s) (over a c f h) (Err fault)
answer_no_body s a b c f g h buf headers taken fault took received =
    let code = took.headed.of.1.code in
    body_after Given (Contains s.statuses) (λ b framing r. Decides s b framing r) (BodyDecides s.limit (body_framing taken.spans.code taken.framing))
    a b c f g h buf headers taken.start taken.len taken.spans taken.framing (faulty fault) (reply_fault fault) took.headed took.is (one_read fault)
    (λ rest decides. inr (faulty fault, of_head s.limit taken.spans.code (status_code took.headed.of.0) taken.framing rest (faulty fault) code decides, refl)) received

-- the head, the value and the body came
pub answer_whole : (s : Sought) (a b c : Option (List ℕ)) (f g h : Bool) (buf : List ℕ) (headers : List HeaderSpan) (taken : Taken) (field : Option (List ℕ)) (body : List ℕ)
    → TookHead (Contains s.statuses) (over a b f g) buf headers taken
    → field ≡ only_one (values_of s.field (fields_at (slice_range buf taken.start taken.len) headers taken.spans))
    → Receives (λ rest r. BodyDecides s.limit (body_framing taken.spans.code taken.framing) (begun_of buf taken ++ rest) r) (over b c g h) (Ok body)
    → Receives (Answers s) (over a c f h) (Ok (record { status = taken.spans.code; field = field; body = body }))
answer_whole s a b c f g h buf headers taken field body took copied received =
    let part : List ℕ = slice_range buf taken.start taken.len in
    let head : ResponseHead = took.headed.of.0 in
    let at = took.headed.of.1 in
    let code : taken.spans.code ≡ status_code head = at.code in
    let value : field ≡ field_value s.field head = copied ∙ field_at part headers taken.spans head s.field at in
    let same : given taken.spans.code field body ≡ with_head s.field head (body_of body) =
    ap (λ (n : ℕ). given n field body) code ∙ ap (λ (v : Option (List ℕ)). given (status_code head) v body) value in
    body_after Given (Contains s.statuses) (λ b framing r. Decides s b framing r) (BodyDecides s.limit (body_framing taken.spans.code taken.framing))
    a b c f g h buf headers taken.start taken.len taken.spans taken.framing (body_of body) (given taken.spans.code field body) took.headed took.is (λ same. absurd (cc))
    (λ rest decides. inr (body_of body, of_head s.limit taken.spans.code (status_code head) taken.framing rest (body_of body) code decides, same)) received

-- ---- whether the connection stays open

-- the connection goes on after the head, as it does after the parts that were read
persists_on : (minor code : ℕ) (fields : List (List ℕ × List ℕ)) (head : ResponseHead) (framing : Framing) → minor ≡ head.minor → code ≡ status_code head → fields ≡ fields_of head.fields
    → Persists minor code fields (body_framing code framing) ≡ Persists head.minor (status_code head) (fields_of head.fields) (body_framing (status_code head) framing)
persists_on minor code fields head framing version status same =
    ap (λ (m : ℕ). Persists m code fields (body_framing code framing)) version
    ∙ (ap (λ (n : ℕ). Persists head.minor n fields (body_framing n framing)) status
    ∙ ap (λ (l : List (List ℕ × List ℕ)). Persists head.minor (status_code head) l (body_framing (status_code head) framing)) same)

-- nothing came behind the body if and only if no more bytes came with the head than it has
ends_with : (begun bytes body : List ℕ) (n : ℕ) → begun ++ bytes ≡ body ++ drop n begun → length body ≡ n → length begun ≤ length body → begun ++ bytes ≡ body
ends_with begun bytes body n joined whole fits =
    joined ∙ (ap (λ (l : List ℕ). body ++ l) (drop_all n begun (omega (arith, whole, fits))) ∙ append-nil body)

begins_within : (begun bytes body : List ℕ) → begun ++ bytes ≡ body → length begun ≤ length body
begins_within begun bytes body same = let long = ap (λ (l : List ℕ). length l) same in omega (arith, long, length-append begun bytes)

-- what was read, with the rest that follows the head
open_after : (a b c : Option (List ℕ)) (f g h : Bool) (buf : List ℕ) (headers : List HeaderSpan) (taken : Taken) (Wanted : ℕ → Type 0) (bytes body : List ℕ) (ended stays_open : Bool)
    (took : TookHead Wanted (over a b f g) buf headers taken) → Gave (over b c g h) bytes ended
    → (IsTrue stays_open
    ↔ (Persists taken.spans.version taken.spans.code (fields_at (slice_range buf taken.start taken.len) headers taken.spans) (body_framing taken.spans.code taken.framing)
    × (begun_of buf taken ++ bytes ≡ body)))
    → LeavesOpen (over a c f h) body stays_open
open_after a b c f g h buf headers taken Wanted bytes body ended stays_open took gave kept =
    let part : List ℕ = slice_range buf taken.start taken.len in
    let rest : List ℕ = drop taken.spans.len part ++ bytes in
    let head : ResponseHead = took.headed.of.0 in
    let at = took.headed.of.1 in
    let same = persists_on taken.spans.version taken.spans.code (fields_at part headers taken.spans) head taken.framing at.version at.code at.fields in
    let short : begun_of buf taken ≡ drop taken.spans.len part = take_rest part taken.spans.len in
    let first : Gave (over a b f g) (take taken.len buf) false = took.headed.gave in
    record {
      text = take taken.len buf ++ bytes;
      ended = ended;
      gave = gave_then a b c f g h (take taken.len buf) bytes ended first gave;
      begun = record { head = head; rest = rest };
      begins = whole_begins (over a b f g) buf headers taken.start taken.len taken.spans took.headed bytes (take taken.len buf ++ bytes) refl;
      framing = taken.framing;
      framed = subst (λ (l : List (List ℕ × List ℕ)). HasFraming l taken.framing) at.fields took.is.framed;
      kept = (
        λ stays. (
          subst (λ (T : Type 0). T) same (kept.0 stays).0,
          ap (λ (l : List ℕ). l ++ bytes) (sym short) ∙ (kept.0 stays).1,
        ),
        λ so. kept.1 (
          subst (λ (T : Type 0). T) (sym same) so.0,
          ap (λ (l : List ℕ). l ++ bytes) short ∙ so.1,
        ),
      );
    }

-- what was read of a body with a length
open_sized : (a b c : Option (List ℕ)) (f g h : Bool) (buf : List ℕ) (headers : List HeaderSpan) (taken : Taken) (Wanted : ℕ → Type 0) (body : List ℕ) (n : ℕ) (goes_on stays_open : Bool)
    (took : TookHead Wanted (over a b f g) buf headers taken) → FullBody (over b c g h) (begun_of buf taken) n body
    → (IsTrue goes_on ↔ Persists taken.spans.version taken.spans.code (fields_at (slice_range buf taken.start taken.len) headers taken.spans) (body_framing taken.spans.code taken.framing))
    → (IsTrue stays_open ↔ (IsTrue goes_on × (length (begun_of buf taken) ≤ length body)))
    → LeavesOpen (over a c f h) body stays_open
open_sized a b c f g h buf headers taken Wanted body n goes_on stays_open took full persists left =
    open_after a b c f g h buf headers taken Wanted full.bytes body false stays_open took full.gave (
      λ stays. (persists.0 (left.0 stays).0, ends_with (begun_of buf taken) full.bytes body n full.joined full.whole (left.0 stays).1),
      λ so. left.1 (persists.1 so.0, begins_within (begun_of buf taken) full.bytes body so.1),
    )

-- what was read of another body: the connection doesn't go on
open_unsized : (a b c : Option (List ℕ)) (f g h : Bool) (buf : List ℕ) (headers : List HeaderSpan) (taken : Taken) (Wanted : ℕ → Type 0) (body : List ℕ) (goes_on stays_open : Bool)
    (P : List ℕ → Outcome → Type 0) (took : TookHead Wanted (over a b f g) buf headers taken) → Receives P (over b c g h) (Ok body)
    → ((n : ℕ) → body_framing taken.spans.code taken.framing ≢ Sized n)
    → (IsTrue goes_on ↔ Persists taken.spans.version taken.spans.code (fields_at (slice_range buf taken.start taken.len) headers taken.spans) (body_framing taken.spans.code taken.framing))
    → (IsTrue stays_open ↔ (IsTrue goes_on × (length (begun_of buf taken) ≤ length body)))
    → LeavesOpen (over a c f h) body stays_open
open_unsized a b c f g h buf headers taken Wanted body goes_on stays_open P took (inl failed) other persists left = let e = failed.0 in absurd (cc)
open_unsized a b c f g h buf headers taken Wanted body goes_on stays_open P took (inr came) other persists left =
    open_after a b c f g h buf headers taken Wanted came.bytes body came.ended stays_open took came.gave (
      λ stays. let sized = (persists.0 (left.0 stays).0).sized in absurd (other sized.0 sized.1),
      λ so. let sized = so.0.sized in absurd (other sized.0 sized.1),
    )

open_framed : (framing : Framing) (a b c : Option (List ℕ)) (f g h : Bool) (buf : List ℕ) (headers : List HeaderSpan) (taken : Taken) (Wanted : ℕ → Type 0) (body : List ℕ) (goes_on stays_open : Bool)
    (P : List ℕ → Outcome → Type 0) → body_framing taken.spans.code taken.framing ≡ framing → (took : TookHead Wanted (over a b f g) buf headers taken) → Receives P (over b c g h) (Ok body)
    → FillsSized framing (over b c g h) (begun_of buf taken) body
    → (IsTrue goes_on ↔ Persists taken.spans.version taken.spans.code (fields_at (slice_range buf taken.start taken.len) headers taken.spans) (body_framing taken.spans.code taken.framing))
    → (IsTrue stays_open ↔ (IsTrue goes_on × (length (begun_of buf taken) ≤ length body)))
    → LeavesOpen (over a c f h) body stays_open
open_framed (Sized n) a b c f g h buf headers taken Wanted body goes_on stays_open P is took received full persists left =
    open_sized a b c f g h buf headers taken Wanted body n goes_on stays_open took full persists left
open_framed UntilEnd a b c f g h buf headers taken Wanted body goes_on stays_open P is took received full persists left =
    open_unsized a b c f g h buf headers taken Wanted body goes_on stays_open P took received (λ n sized. absurd (cc)) persists left
open_framed Chunked a b c f g h buf headers taken Wanted body goes_on stays_open P is took received full persists left =
    open_unsized a b c f g h buf headers taken Wanted body goes_on stays_open P took received (λ n sized. absurd (cc)) persists left

-- the connection stays open if it goes on and nothing came behind the body
pub answer_open : (a b c : Option (List ℕ)) (f g h : Bool) (buf : List ℕ) (headers : List HeaderSpan) (taken : Taken) (Wanted : ℕ → Type 0) (body : List ℕ) (goes_on stays_open : Bool)
    (limit : ℕ) (took : TookHead Wanted (over a b f g) buf headers taken)
    → Receives (λ rest r. BodyDecides limit (body_framing taken.spans.code taken.framing) (begun_of buf taken ++ rest) r) (over b c g h) (Ok body)
    → FillsSized (body_framing taken.spans.code taken.framing) (over b c g h) (begun_of buf taken) body
    → (IsTrue goes_on ↔ Persists taken.spans.version taken.spans.code (fields_at (slice_range buf taken.start taken.len) headers taken.spans) (body_framing taken.spans.code taken.framing))
    → (IsTrue stays_open ↔ (IsTrue goes_on × (length (begun_of buf taken) ≤ length body)))
    → LeavesOpen (over a c f h) body stays_open
answer_open a b c f g h buf headers taken Wanted body goes_on stays_open limit took received full persists left =
    open_framed (body_framing taken.spans.code taken.framing) a b c f g h buf headers taken Wanted body goes_on stays_open
    (λ rest r. BodyDecides limit (body_framing taken.spans.code taken.framing) (begun_of buf taken ++ rest) r) refl took received full persists left
