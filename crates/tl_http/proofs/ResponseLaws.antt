-- A response and a reply have one result for an input, unless an allocation fails.
use Rattle.std.proofs.Common.{◌≡◌, ℕ, List, [], ◌∷◌, ◌++◌, All, Contains, Result, Some, append_assoc, ap, codes, inl, inr, refl, subst, sym, ◌⊎◌, ◌∙◌}
use Rattle.std.proofs.lemmas.List.Elements.{All-head, All-tail}
use Rattle.std.specs.List.{flat_map}
use Rattle.httparse.specs.Grammar.{ReadsResponse, ResponseHead, print_response, status_code}
use Rattle.httparse.proofs.GrammarLemmas.{response_unique}
use Rattle.tl_http.specs.FieldValues.{fields_of, values_of}
use Rattle.tl_http.specs.Fields.{AnnouncesLength, HasFraming}
use Rattle.tl_http.specs.Post.{Given, Replied, Replies, ReplyDecides, with_head}
use Rattle.tl_http.specs.Response.{Begins, Begun, BodyDecides, HeadDecides, IsInterim, IsInterimStatus, LacksMemory, Outcome, Responds, ResponseDecides, Unless, UnlessSome}
use Rattle.tl_http.specs.declared.fault.HttpFault.{HttpFault}
use Rattle.tl_http.specs.declared.framing.Framing.{Framing}
use Rattle.tl_http.specs.declared.framing.Framing.TheVariants.{Sized, UntilEnd, Chunked}
use Rattle.tl_http.proofs.ChunkLaws.{IsOne, one_outcome}
use Rattle.tl_http.proofs.FramingLemmas.{one_value}
use Rattle.tl_http.proofs.LengthLemmas.{one_number}

-- ---- one head

-- a head of an input isn't an interim head that another reading passes
not_interim : (x head : ResponseHead) (xs rest : List ℕ) → IsInterim x → ReadsResponse (print_response x ++ xs) head rest → IsInterimStatus (status_code head)
not_interim x head xs rest is reads =
    let one = response_unique (print_response x ++ xs) x head xs rest (is.valid, refl) reads in
    subst (λ (h : ResponseHead). IsInterimStatus (status_code h)) one.0 is.status

one_head : (xs ys : List ResponseHead) (after then : List ℕ) (head other : ResponseHead) (rest more : List ℕ) → All IsInterim xs → All IsInterim ys
    → flat_map print_response xs ++ after ≡ flat_map print_response ys ++ then → ReadsResponse after head rest → ReadsResponse then other more
    → ¬ (IsInterimStatus (status_code head)) → ¬ (IsInterimStatus (status_code other)) → (head ≡ other) × (rest ≡ more)
one_head [] [] after then head other rest more a b same reads there final last =
    response_unique then head other rest more (subst (λ (l : List ℕ). ReadsResponse l head rest) same reads) there
one_head [] (y ∷ ys) after then head other rest more a b same reads there final last =
    let texts : after ≡ print_response y ++ (flat_map print_response ys ++ then) = same ∙ append_assoc (print_response y) (flat_map print_response ys) then in
    absurd (final (not_interim y head (flat_map print_response ys ++ then) rest (All-head IsInterim y ys b) (subst (λ (l : List ℕ). ReadsResponse l head rest) texts reads)))
one_head (x ∷ xs) [] after then head other rest more a b same reads there final last =
    let texts : then ≡ print_response x ++ (flat_map print_response xs ++ after) = sym same ∙ append_assoc (print_response x) (flat_map print_response xs) after in
    absurd (last (not_interim x other (flat_map print_response xs ++ after) more (All-head IsInterim x xs a) (subst (λ (l : List ℕ). ReadsResponse l other more) texts there)))
one_head (x ∷ xs) (y ∷ ys) after then head other rest more a b same reads there final last =
    let is : IsInterim x = All-head IsInterim x xs a in
    let next : IsInterim y = All-head IsInterim y ys b in
    let first : List ℕ = flat_map print_response xs ++ after in
    let second : List ℕ = flat_map print_response ys ++ then in
    let texts : print_response x ++ first ≡ print_response y ++ second =
    sym (append_assoc (print_response x) (flat_map print_response xs) after) ∙ (same ∙ append_assoc (print_response y) (flat_map print_response ys) then) in
    let one = response_unique (print_response x ++ first) x y first second (is.valid, refl) (next.valid, texts) in
    one_head xs ys after then head other rest more (All-tail IsInterim x xs a) (All-tail IsInterim y ys b) one.1 reads there final last

-- an input begins with at most one head
one_begun : (input : List ℕ) (b c : Begun) → Begins input b → Begins input c → (b.head ≡ c.head) × (b.rest ≡ c.rest)
one_begun input b c is then =
    one_head is.interim then.interim is.after then.after b.head c.head b.rest c.rest is.passed then.passed (sym is.joined ∙ then.joined) is.reads then.reads is.final then.final

-- ---- one framing

one_length : (values : List (List ℕ)) (n m : ℕ) → AnnouncesLength values (Some n) → AnnouncesLength values (Some m) → n ≡ m
one_length [] n m a b = absurd (a.0 refl)
one_length (v ∷ values) n m a b = one_number v n m a.1.0 b.1.0

one_framing : (fields : List (List ℕ × List ℕ)) (f g : Framing) → HasFraming fields f → HasFraming fields g → f ≡ g
one_framing fields (Sized n) (Sized m) a b = ap Sized (one_length (values_of (codes "Content-Length") fields) n m a.1 b.1)
one_framing fields (Sized n) UntilEnd a b = absurd (a.1.0 b.1)
one_framing fields (Sized n) Chunked a b = absurd (a.1.0 b.1)
one_framing fields UntilEnd (Sized m) a b = absurd (b.1.0 a.1)
one_framing fields UntilEnd UntilEnd a b = refl
one_framing fields UntilEnd Chunked a b = absurd (one_value (values_of (codes "Transfer-Encoding") fields) b.0.0 b.0.1 a.0)
one_framing fields Chunked (Sized m) a b = absurd (b.1.0 a.1)
one_framing fields Chunked UntilEnd a b = absurd (one_value (values_of (codes "Transfer-Encoding") fields) a.0.0 a.0.1 b.0)
one_framing fields Chunked Chunked a b = refl

-- an input has one head and rest
begun_of : ResponseHead → List ℕ → Begun
begun_of head rest = record { head = head; rest = rest }

same_begun : (input : List ℕ) (b c : Begun) → Begins input b → Begins input c → b ≡ c
unfolding begun_of
same_begun input b c is then =
    let one = one_begun input b c is then in
    ap (λ (h : ResponseHead). begun_of h b.rest) one.0 ∙ ap (λ (l : List ℕ). begun_of c.head l) one.1

-- ---- one outcome

-- a case, and the rest of its table
one_row : (R fact rest more : Type 0) (r q one : Result R HttpFault) → (rest → more → IsOne r q) → Unless fact (r ≡ one) rest → Unless fact (q ≡ one) more → IsOne r q
one_row R fact rest more r q one below (inl a) (inl b) = inl (a.1 ∙ sym b.1)
one_row R fact rest more r q one below (inl a) (inr b) = absurd (a.0 b.0)
one_row R fact rest more r q one below (inr a) (inl b) = absurd (b.0 a.0)
one_row R fact rest more r q one below (inr a) (inr b) = below a.1 b.1

-- the case of a failed allocation, and the rest of its table
one_memory : (most : ℕ) (text : List ℕ) (rest more : Type 0) (r q : Outcome) → (rest → more → IsOne r q)
    → LacksMemory most text r ⊎ rest → LacksMemory most text q ⊎ more → IsOne r q
one_memory most text rest more r q below (inl a) other = inr (inl a.0)
one_memory most text rest more r q below (inr a) (inl b) = inr (inr b.0)
one_memory most text rest more r q below (inr a) (inr b) = below a b

one_body : (limit : ℕ) (f : Framing) (rest : List ℕ) (r q : Outcome) → BodyDecides limit f rest r → BodyDecides limit f rest q → IsOne r q
one_body limit (Sized n) rest r q a b =
    one_row _ _ _ _ r q _ (one_memory n rest _ _ r q (one_row _ _ _ _ r q _ (λ x y. inl (x ∙ sym y)))) a b
one_body limit UntilEnd rest r q a b = one_memory limit rest _ _ r q (one_row _ _ _ _ r q _ (λ x y. inl (x ∙ sym y))) a b
one_body limit Chunked rest r q a b = one_outcome limit rest r q a b

-- the rows of fields
one_fields : (R : Type 0) (fields : List (List ℕ × List ℕ)) (P Q : Framing → Type 0) (r q one : Result R HttpFault) → ((f : Framing) → P f → Q f → IsOne r q)
    → UnlessSome (HasFraming fields) (r ≡ one) P → UnlessSome (HasFraming fields) (q ≡ one) Q → IsOne r q
one_fields R fields P Q r q one below (inl a) (inl b) = inl (a.1 ∙ sym b.1)
one_fields R fields P Q r q one below (inl a) (inr b) = absurd (a.0 b.0 b.1)
one_fields R fields P Q r q one below (inr a) (inl b) = absurd (b.0 a.0 a.1)
one_fields R fields P Q r q one below (inr a) (inr b) = below b.0 (subst P (one_framing fields a.0 b.0 a.1 b.1) a.2) b.2

one_of_head : (R : Type 0) (Wanted : ℕ → Type 0) (minor status : ℕ) (fields : List (List ℕ × List ℕ)) (P Q : Framing → Type 0) (r q : Result R HttpFault)
    → ((f : Framing) → P f → Q f → IsOne r q) → HeadDecides Wanted minor status fields P r → HeadDecides Wanted minor status fields Q q → IsOne r q
one_of_head R Wanted minor status fields P Q r q below a b =
    one_row R _ _ _ r q _ (one_row R _ _ _ r q _ (one_row R _ _ _ r q _ (one_fields R fields P Q r q _ below))) a b

-- an input has one result if a head, what follows it and its framing have one
one_decided : (R : Type 0) (Wanted : ℕ → Type 0) (P Q : Begun → Framing → Type 0) (input : List ℕ) (r q : Result R HttpFault)
    → ((b : Begun) (f : Framing) → P b f → Q b f → IsOne r q) → ResponseDecides Wanted P input r → ResponseDecides Wanted Q input q → IsOne r q
one_decided R Wanted P Q input r q below (inl a) (inl b) = inl (a.1 ∙ sym b.1)
one_decided R Wanted P Q input r q below (inl a) (inr b) = absurd (a.0 b.0 b.1)
one_decided R Wanted P Q input r q below (inr a) (inl b) = absurd (b.0 a.0 a.1)
one_decided R Wanted P Q input r q below (inr a) (inr b) =
    let head : ResponseHead = b.0.head in
    let there : HeadDecides Wanted head.minor (status_code head) (fields_of head.fields) (P b.0) r =
    subst (λ (x : Begun). HeadDecides Wanted x.head.minor (status_code x.head) (fields_of x.head.fields) (P x) r) (same_begun input a.0 b.0 a.1 b.1) a.2 in
    one_of_head R Wanted head.minor (status_code head) (fields_of head.fields) (P b.0) (Q b.0) r q (below b.0) there b.2

-- an input has one result, unless an allocation fails
pub one_response : (limit : ℕ) (input : List ℕ) (r q : Outcome) → Responds limit input r → Responds limit input q → IsOne r q
one_response limit input r q a b =
    one_decided (List ℕ) (λ s. s ≡ 200) (λ b f. BodyDecides limit f b.rest r) (λ b f. BodyDecides limit f b.rest q) input r q
    (λ b f. one_body limit f b.rest r q) a b

-- ---- one reply

-- two outcomes of a body give one reply
one_with_head : (name : List ℕ) (head : ResponseHead) (body other : Outcome) (r q : Replied) → IsOne body other
    → r ≡ with_head name head body → q ≡ with_head name head other → IsOne r q
one_with_head name head body other r q (inl same) a b = inl (a ∙ (ap (with_head name head) same ∙ sym b))
one_with_head name head body other r q (inr (inl none)) a b = inr (inl (a ∙ ap (with_head name head) none))
one_with_head name head body other r q (inr (inr none)) a b = inr (inr (b ∙ ap (with_head name head) none))

one_taken : (name : List ℕ) (limit : ℕ) (b : Begun) (f : Framing) (r q : Replied) → ReplyDecides name limit b f r → ReplyDecides name limit b f q → IsOne r q
one_taken name limit b f r q (inl none) other = inr (inl none.0)
one_taken name limit b f r q (inr body) (inl none) = inr (inr none.0)
one_taken name limit b f r q (inr body) (inr other) =
    one_with_head name b.head body.0 other.0 r q (one_body limit f b.rest body.0 other.0 body.1 other.1) body.2 other.2

-- an input has one reply, unless an allocation fails
pub one_reply : (statuses name : List ℕ) (limit : ℕ) (input : List ℕ) (r q : Replied)
    → Replies statuses name limit input r → Replies statuses name limit input q → IsOne r q
one_reply statuses name limit input r q a b =
    one_decided Given (Contains statuses) (λ b f. ReplyDecides name limit b f r) (λ b f. ReplyDecides name limit b f q) input r q
    (λ b f. one_taken name limit b f r q) a b
