-- From the steps of reading a response to the whole.
use Rattle.std.proofs.Common.{◌≡◌, ◌+◌, ◌-◌, ℕ, zero, suc, List, [], ◌∷◌, ◌++◌, Contains, Option, Result, Err, Bool, false, length, length-append, length-take, slice_range, take, drop, map, append_assoc, ap, subst, sym, ◌∙◌, refl, inl, inr, arith}
use Rattle.std.proofs.KnownBytes.{Consumes-trans}
use Rattle.std.proofs.lemmas.List.{take_rest}
use Rattle.std.specs.List.{flat_map}
use Rattle.std.specs.Prelude.{min}
use Rattle.httparse.specs.declared.spans.HeaderSpan.{HeaderSpan}
use Rattle.httparse.specs.declared.spans.ResponseSpans.{ResponseSpans}
use Rattle.httparse.specs.Grammar.{ResponseHead, print_response, status_code}
use Rattle.httparse.specs.Spans.{IsResponseAt, header_bytes}
use Rattle.httparse.proofs.GrammarLemmas.{ReadsResponse-append}
use Rattle.tl_device.specs.Device.{Passage}
use Rattle.tl_http.specs.FieldValues.{fields_of}
use Rattle.tl_http.specs.Get.{Came, Receives}
use Rattle.tl_http.specs.Response.{Begins, Begun, BodyDecides, HeadDecides, IsInterimStatus, Outcome, ResponseDecides, Responds, Unless, UnlessSome}
use Rattle.tl_http.specs.Fields.{HasFraming}
use Rattle.tl_http.specs.Inner.Heads.{HasNoHead, IsHeaded, IsTaken, faulty}
use Rattle.tl_http.specs.declared.fault.HttpFault.{HttpFault}
use Rattle.tl_http.specs.declared.framing.Framing.{Framing}
use Rattle.tl_http.specs.declared.fault.HttpFault.TheVariants.{BadLength, Encoded, NoHead, Read, Status, Version}
use Rattle.tl_device.proofs.SendingLemmas.{over}
use Rattle.tl_http.proofs.PassedLemmas.{few_fields}

-- ---- what decides a result alone

-- an outcome that is a fault
abbrev pub fault_of : (R : Type 0) → HttpFault → Result R HttpFault
fault_of R fault = Err fault

-- what such an outcome is doesn't depend on what else may be given
one_fault : (R : Type 0) (fault why : HttpFault) → faulty fault ≡ Err why → fault_of R fault ≡ Err why
one_fault R fault why same = let e : fault ≡ why = cc in ap (λ (f : HttpFault). fault_of R f) e

-- a row of a table, or its rest
row_on : (R fact rest more : Type 0) (fault why : HttpFault) → (rest → more) → Unless fact (faulty fault ≡ Err why) rest → Unless fact (fault_of R fault ≡ Err why) more
row_on R fact rest more fault why on (inl otherwise) = inl (otherwise.0, one_fault R fault why otherwise.1)
row_on R fact rest more fault why on (inr so) = inr (so.0, on so.1)

-- the row of no framing
frame_on : (R : Type 0) (fields : List (List ℕ × List ℕ)) (Taken : Framing → Type 0) (fault : HttpFault)
    → UnlessSome (HasFraming fields) (faulty fault ≡ Err BadLength) (λ _. ⊥) → UnlessSome (HasFraming fields) (fault_of R fault ≡ Err BadLength) Taken
frame_on R fields Taken fault (inl otherwise) = inl (otherwise.0, one_fault R fault BadLength otherwise.1)
frame_on R fields Taken fault (inr so) = absurd so.2

-- the rows of a head
head_on : (R : Type 0) (Wanted : ℕ → Type 0) (minor status : ℕ) (fields : List (List ℕ × List ℕ)) (Taken : Framing → Type 0) (fault : HttpFault)
    → HeadDecides Wanted minor status fields (λ _. ⊥) (faulty fault) → HeadDecides Wanted minor status fields Taken (fault_of R fault)
head_on R Wanted minor status fields Taken fault decides =
    row_on R _ _ _ fault Version (row_on R _ _ _ fault (Status status) (row_on R _ _ _ fault Encoded (frame_on R fields Taken fault))) decides

-- the rows of an input
input_on : (R : Type 0) (Wanted : ℕ → Type 0) (Taken : Begun → Framing → Type 0) (fault : HttpFault) (input : List ℕ)
    → ResponseDecides Wanted (λ _ _. ⊥) input (faulty fault) → ResponseDecides Wanted Taken input (fault_of R fault)
input_on R Wanted Taken fault input (inl otherwise) = inl (otherwise.0, one_fault R fault NoHead otherwise.1)
input_on R Wanted Taken fault input (inr so) =
    inr (so.0, so.1, head_on R Wanted so.0.head.minor (status_code so.0.head) (fields_of so.0.head.fields) (Taken so.0) fault so.2)

-- what was read decides alone, whatever follows a head
pub decides_alone : (R : Type 0) (Wanted : ℕ → Type 0) (Taken : Begun → Framing → Result R HttpFault → Type 0) (i : Passage) (fault : HttpFault)
    → Receives (ResponseDecides Wanted (λ _ _. ⊥)) i (faulty fault)
    → Receives (λ input r. ResponseDecides Wanted (λ b framing. Taken b framing r) input r) i (fault_of R fault)
decides_alone R Wanted Taken i fault (inl failed) = inl (one_fault R fault Read failed.0, failed.1)
decides_alone R Wanted Taken i fault (inr came) = inr (record {
  bytes = came.bytes;
  ended = came.ended;
  gave = came.gave;
  so = λ input may. input_on R Wanted (λ b framing. Taken b framing (fault_of R fault)) fault input (came.so input may);
})

-- no head was read
pub no_head : (Wanted : ℕ → Type 0) (i : Passage) → Came HasNoHead i → Receives (ResponseDecides Wanted (λ _ _. ⊥)) i (faulty NoHead)
no_head Wanted i came = inr (record { bytes = came.bytes; ended = came.ended; gave = came.gave; so = λ input may. inl (came.so input may, refl) })

-- ---- a head

-- names and values of the fields whose spans were read
abbrev pub fields_at : List ℕ → List HeaderSpan → ResponseSpans → List (List ℕ × List ℕ)
fields_at bytes headers spans = map (header_bytes bytes) (take spans.headers headers)

-- the parts that were read are those of the head
head_decides : (R : Type 0) (Wanted : ℕ → Type 0) (bytes : List ℕ) (headers : List HeaderSpan) (spans : ResponseSpans) (head : ResponseHead) → IsResponseAt bytes headers spans head
    → (Taken : Framing → Type 0) (r : Result R HttpFault) → HeadDecides Wanted spans.version spans.code (fields_at bytes headers spans) Taken r
    → HeadDecides Wanted head.minor (status_code head) (fields_of head.fields) Taken r
head_decides R Wanted bytes headers spans head at Taken r decides =
    subst (λ (m : ℕ). HeadDecides Wanted m (status_code head) (fields_of head.fields) Taken r) at.version
    (subst (λ (s : ℕ). HeadDecides Wanted spans.version s (fields_of head.fields) Taken r) at.code
    (subst (λ (l : List (List ℕ × List ℕ)). HeadDecides Wanted spans.version spans.code l Taken r) at.fields decides))

-- whatever follows what was read, the whole begins with the head
pub whole_begins : (i : Passage) (buf : List ℕ) (headers : List HeaderSpan) (start len : ℕ) (spans : ResponseSpans) (is : IsHeaded i buf headers start len spans) (more input : List ℕ)
    → input ≡ take len buf ++ more → Begins input (record { head = is.of.0; rest = drop spans.len (slice_range buf start len) ++ more })
whole_begins i buf headers start len spans is more input same =
    let head : ResponseHead = is.of.0 in
    let at = is.of.1 in
    let part : List ℕ = slice_range buf start len in
    let past : List ℕ = flat_map print_response is.passed.heads in
    let long : length (take len buf) ≡ min len (length buf) = length-take len buf in
    let sum : length (take len buf) ≡ length past + length part = ap (λ (l : List ℕ). length l) is.passed.joined ∙ length-append past part in
    let fits = is.fits in
    let within = is.within.section.len_fits in
    let print = at.len in
    record {
      interim = is.passed.heads;
      passed = is.passed.interim;
      after = part ++ more;
      joined = same ∙ (ap (λ (l : List ℕ). l ++ more) is.passed.joined ∙ append_assoc past part more);
      reads = ReadsResponse-append part head (drop spans.len part) more at.reads;
      final = subst (λ (s : ℕ). ¬ (IsInterimStatus s)) at.code is.final;
      short = omega (arith, long, sum, fits, within, print);
      few = few_fields part headers spans head at is.room;
    }

-- the head decides alone
pub head_alone : (Wanted : ℕ → Type 0) (i : Passage) (buf : List ℕ) (headers : List HeaderSpan) (start len : ℕ) (spans : ResponseSpans) (fault : HttpFault)
    → IsHeaded i buf headers start len spans → HeadDecides Wanted spans.version spans.code (fields_at (slice_range buf start len) headers spans) (λ _. ⊥) (faulty fault)
    → Receives (ResponseDecides Wanted (λ _ _. ⊥)) i (faulty fault)
head_alone Wanted i buf headers start len spans fault is decides = inr (record {
  bytes = take len buf;
  ended = false;
  gave = is.gave;
  so = λ input may.
      let rest : List ℕ = drop spans.len (slice_range buf start len) ++ may.more in
      inr (
        record { head = is.of.0; rest = rest },
        whole_begins i buf headers start len spans is may.more input may.joined,
        head_decides (List ℕ) Wanted (slice_range buf start len) headers spans is.of.0 is.of.1 (λ _. ⊥) (faulty fault) decides,
      );
})

-- a head that is taken leaves it to the rest
taken_decides : (R : Type 0) (Wanted : ℕ → Type 0) (minor status : ℕ) (fields : List (List ℕ × List ℕ)) (framing : Framing) (Taken : Framing → Type 0) (r : Result R HttpFault)
    → IsTaken Wanted minor status fields framing → Taken framing → HeadDecides Wanted minor status fields Taken r
taken_decides R Wanted minor status fields framing Taken r is decides =
    inr (is.version, inr (is.wanted, inr (is.plain, inr (framing, is.framed, decides))))

-- what was read with a head that is taken, and what follows, decide
pub head_taken : (R : Type 0) (Wanted : ℕ → Type 0) (Taken : Begun → Framing → Result R HttpFault → Type 0)
    (i : Passage) (buf : List ℕ) (headers : List HeaderSpan) (start len : ℕ) (spans : ResponseSpans) (framing : Framing) (r : Result R HttpFault) (is : IsHeaded i buf headers start len spans)
    → IsTaken Wanted spans.version spans.code (fields_at (slice_range buf start len) headers spans) framing
    → (more input : List ℕ) → input ≡ take len buf ++ more
    → Taken (record { head = is.of.0; rest = drop spans.len (slice_range buf start len) ++ more }) framing r
    → ResponseDecides Wanted (λ b framing. Taken b framing r) input r
head_taken R Wanted Taken i buf headers start len spans framing r is taken more input joined decides =
    let part : List ℕ = slice_range buf start len in
    let b : Begun = record { head = is.of.0; rest = drop spans.len part ++ more } in
    inr (
      b,
      whole_begins i buf headers start len spans is more input joined,
      head_decides R Wanted part headers spans is.of.0 is.of.1 (λ framing. Taken b framing r) r
          (taken_decides R Wanted spans.version spans.code (fields_at part headers spans) framing (λ framing. Taken b framing r) r taken decides),
    )

-- a head was read, and it decides with its fields alone
pub taken_alone : (R : Type 0) (Wanted : ℕ → Type 0) (Taken : Begun → Framing → Result R HttpFault → Type 0)
    (i : Passage) (buf : List ℕ) (headers : List HeaderSpan) (start len : ℕ) (spans : ResponseSpans) (framing : Framing) (r : Result R HttpFault) (is : IsHeaded i buf headers start len spans)
    → IsTaken Wanted spans.version spans.code (fields_at (slice_range buf start len) headers spans) framing
    → ((rest : List ℕ) → Taken (record { head = is.of.0; rest = rest }) framing r)
    → Receives (λ input r. ResponseDecides Wanted (λ b framing. Taken b framing r) input r) i r
taken_alone R Wanted Taken i buf headers start len spans framing r is taken decides = inr (record {
  bytes = take len buf;
  ended = false;
  gave = is.gave;
  so = λ input may. head_taken R Wanted Taken i buf headers start len spans framing r is taken may.more input may.joined (decides _);
})

-- a head was read, and then a body, of which the beginning came with the head
pub body_after : (R : Type 0) (Wanted : ℕ → Type 0) (Taken : Begun → Framing → Result R HttpFault → Type 0) (Decides : List ℕ → Outcome → Type 0)
    (a b c : Option (List ℕ)) (f g h : Bool) (buf : List ℕ) (headers : List HeaderSpan) (start len : ℕ) (spans : ResponseSpans) (framing : Framing) (body : Outcome) (r : Result R HttpFault)
    (is : IsHeaded (over a b f g) buf headers start len spans) → IsTaken Wanted spans.version spans.code (fields_at (slice_range buf start len) headers spans) framing
    → (body ≡ Err Read → r ≡ Err Read)
    → ((rest : List ℕ) → Decides rest body → Taken (record { head = is.of.0; rest = rest }) framing r)
    → Receives (λ rest r. Decides (take (length (slice_range buf start len) - spans.len) (drop spans.len (slice_range buf start len)) ++ rest) r) (over b c g h) body
    → Receives (λ input r. ResponseDecides Wanted (λ b framing. Taken b framing r) input r) (over a c f h) r
body_after R Wanted Taken Decides a b c f g h buf headers start len spans framing body r is taken unread on (inl failed) = inl (unread failed.0, failed.1)
body_after R Wanted Taken Decides a b c f g h buf headers start len spans framing body r is taken unread on (inr came) = inr (record {
  bytes = take len buf ++ came.bytes;
  ended = came.ended;
  gave = record {
    consumed = Consumes-trans a b c (take len buf) came.bytes is.gave.consumed came.gave.consumed;
    at_end = came.gave.at_end;
    steady = came.gave.steady ∙ is.gave.steady;
  };
  so = λ input may.
      let part : List ℕ = slice_range buf start len in
      let more : List ℕ = came.bytes ++ may.more in
      let rest : List ℕ = drop spans.len part ++ more in
      let joined : input ≡ take len buf ++ more = may.joined ∙ append_assoc (take len buf) came.bytes may.more in
      let decides = came.so more (record { more = may.more; joined = refl; none = may.none }) in
      let of_body : Decides rest body = subst (λ (l : List ℕ). Decides (l ++ more) body) (take_rest part spans.len) decides in
      head_taken R Wanted Taken (over a b f g) buf headers start len spans framing r is taken more input joined (on rest of_body);
})

-- ---- status 200

-- one status is in a list of one
pub only_status : (status : ℕ) → Contains (200 ∷ []) status → status ≡ 200
only_status status (zero, within, is) = sym is
only_status status (suc k, within, is) = absurd (omega (arith, within))

-- a status in a list of one is that status
found_only : (R : Type 0) (status : ℕ) (r : Result R HttpFault) (more : Type 0)
    → Unless (Contains (200 ∷ []) status) (r ≡ Err (Status status)) more → Unless (status ≡ 200) (r ≡ Err (Status status)) more
found_only R status r more (inl otherwise) = inl ((λ same. otherwise.0 (0, omega arith, sym same)), otherwise.1)
found_only R status r more (inr so) = inr (only_status status so.0, so.1)

found_head : (R : Type 0) (minor status : ℕ) (fields : List (List ℕ × List ℕ)) (Taken : Framing → Type 0) (r : Result R HttpFault)
    → HeadDecides (λ s. Contains (200 ∷ []) s) minor status fields Taken r → HeadDecides (λ s. s ≡ 200) minor status fields Taken r
found_head R minor status fields Taken r (inl otherwise) = inl otherwise
found_head R minor status fields Taken r (inr so) = inr (so.0, found_only R status r _ so.1)

found_input : (R : Type 0) (Taken : Begun → Framing → Type 0) (input : List ℕ) (r : Result R HttpFault)
    → ResponseDecides (λ s. Contains (200 ∷ []) s) Taken input r → ResponseDecides (λ s. s ≡ 200) Taken input r
found_input R Taken input r (inl otherwise) = inl otherwise
found_input R Taken input r (inr so) =
    inr (so.0, so.1, found_head R so.0.head.minor (status_code so.0.head) (fields_of so.0.head.fields) (Taken so.0) r so.2)

-- what was read decides, if status 200 is wanted
pub found_receives : (limit : ℕ) (i : Passage) (r : Outcome)
    → Receives (λ input r. ResponseDecides (λ s. Contains (200 ∷ []) s) (λ b framing. BodyDecides limit framing b.rest r) input r) i r → Receives (Responds limit) i r
found_receives limit i r (inl failed) = inl failed
found_receives limit i r (inr came) = inr (record {
  bytes = came.bytes;
  ended = came.ended;
  gave = came.gave;
  so = λ input may. found_input (List ℕ) (λ b framing. BodyDecides limit framing b.rest r) input r (came.so input may);
})
