-- Laws of opening a book.
use Rattle.std.proofs.Common.{◌≡◌, ◌≢◌, ◌<◌, ℕ, zero, suc, List, [], ◌∷◌, ◌++◌, Some, inl, inr, refl, sym, ap, subst, ◌∙◌, map, length, slice_get, slice_index_or, All}
use Rattle.std.specs.Prelude.{slice_set}
use Rattle.std.specs.List.{AllZip}
use Rattle.std.proofs.lemmas.List.{map-set, map-append}
use Rattle.std.proofs.lemmas.List.Elements.{All-head, All-tail}
use Rattle.tl_hash.specs.Bytes.{Digest}
use Rattle.tl_proof.specs.Acceptance.{Step}
use Rattle.tl_witness.specs.Chain.{IsChain}
use Rattle.tl_note.specs.Key.{Key, IsKeyName}
use Rattle.tl_witness.specs.Open.{SavedChain, saved_chain, Trusted, AreNamedOnce, HasEachKeyOnce, IsAmong, HasTwice, IsFirstNot, IsFirstBreak, IsFirstBroken, IsKept, IsTrusted, OpensBook, chain_origins, trusted_origins, cosigner_names}
use Rattle.tl_witness.specs.Opening.{TakesChain}
use Rattle.tl_witness.specs.Witnessed.{Witnessed}
use Rattle.tl_witness.proofs.Moved.{shown_twice}
use Rattle.tl_witness.proofs.PlaceLaws.{shows_at}
use Rattle.tl_witness.proofs.ListLaws.{among_at, among_none, comes_again, next_there, done_there, zip_more}

-- nothing was taken
pub took_none : (origin : List ℕ) (chains : List SavedChain) → ((i : ℕ) → slice_get (chain_origins chains) i ≢ Some origin) → TakesChain origin chains chains []
took_none origin chains none = record {
  same_origins = refl;
  others = λ c is other. is;
  chain = inr (among_none (chain_origins chains) origin none, refl);
}

set_origins : (chains : List SavedChain) (place : ℕ) (origin : List ℕ) (taken : List Step) → slice_get chains place ≡ Some (saved_chain origin taken)
    → chain_origins (slice_set chains place (saved_chain origin [])) ≡ chain_origins chains
set_origins [] place origin taken there = absurd cc
set_origins (c ∷ chains) zero origin taken there =
    let same : c ≡ (saved_chain origin taken) = cc in ap (λ (d : SavedChain). d.origin ∷ chain_origins chains) (sym same)
set_origins (c ∷ chains) (suc place) origin taken there = ap (λ (os : List (List ℕ)). c.origin ∷ os) (set_origins chains place origin taken there)

set_others : (chains : List SavedChain) (place : ℕ) (origin : List ℕ) (c : SavedChain) → IsAmong c (slice_set chains place (saved_chain origin [])) → c.origin ≢ origin → IsAmong c chains
set_others [] place origin c is other = is
set_others (d ∷ chains) zero origin c (inl same) other = absurd (other (ap (λ (e : SavedChain). e.origin) (sym same)))
set_others (d ∷ chains) zero origin c (inr later) other = inr later
set_others (d ∷ chains) (suc place) origin c (inl same) other = inl same
set_others (d ∷ chains) (suc place) origin c (inr later) other = inr (set_others chains place origin c later other)

-- a chain was taken from its position
pub took_one : (origin : List ℕ) (chains : List SavedChain) (place : ℕ) (taken : List Step) → slice_get chains place ≡ Some (saved_chain origin taken)
    → TakesChain origin chains (slice_set chains place (saved_chain origin [])) taken
took_one origin chains place taken there = record {
  same_origins = set_origins chains place origin taken there;
  others = λ c is other. set_others chains place origin c is other;
  chain = inl (among_at chains place (saved_chain origin taken) there);
}

-- a chain breaks, of those that come after some that don't
pub breaks_next : (H : Digest) (done : List SavedChain) (c : SavedChain) (rest all : List SavedChain) (link : ℕ) → done ++ c ∷ rest ≡ all
    → All (λ d. IsChain H d.steps) done → IsFirstBreak H c.steps link → IsFirstBroken H all (length done) link
breaks_next H done c rest all link whole each breaks = record {
  broken = c;
  there = next_there done c rest all whole;
  before = subst (All (λ (d : SavedChain). IsChain H d.steps)) (sym (done_there done (c ∷ rest) all whole)) each;
  breaks = breaks;
}

-- what is kept of the trusts so far, and what is left of the chains
pub record HasEntered (saved left : List SavedChain) (trusts : List Trusted) (book : List Witnessed) : Type 0 where
  pub same_origins : chain_origins left ≡ chain_origins saved
  pub others : (c : SavedChain) → IsAmong c left → ¬ (IsAmong c.origin (trusted_origins trusts)) → IsAmong c saved
  pub kept : AllZip (IsKept saved) trusts book

pub entered_none : (saved : List SavedChain) → HasEntered saved saved [] []
entered_none saved = record { same_origins = refl; others = λ c is other. is; kept = tt }

origins_more : (trusts : List Trusted) (t : Trusted) → trusted_origins (trusts ++ t ∷ []) ≡ trusted_origins trusts ++ t.origin ∷ []
origins_more [] t = refl
origins_more (u ∷ trusts) t = ap (λ (os : List (List ℕ)). u.origin ∷ os) (origins_more trusts t)

-- one trust more
pub entered_more : (saved left now : List SavedChain) (trusts : List Trusted) (book : List Witnessed) (t : Trusted) (one : Witnessed) (taken : List Step)
    → HasEntered saved left trusts book → ¬ (IsAmong t.origin (trusted_origins trusts)) → TakesChain t.origin left now taken
    → one.origin ≡ t.origin → one.verifiers ≡ t.verifiers → one.cosigner ≡ t.cosigner → one.chain ≡ taken
    → HasEntered saved now (trusts ++ t ∷ []) (book ++ one ∷ [])
entered_more saved left now trusts book t one taken entered once takes o v s c = record {
  same_origins = takes.same_origins ∙ entered.same_origins;
  others = λ d is other.
      let apart : ¬ (IsAmong d.origin (trusted_origins trusts ++ t.origin ∷ [])) = subst (λ (os : List (List ℕ)). ¬ (IsAmong d.origin os)) (origins_more trusts t) other in
      entered.others d (takes.others d is (λ same. apart (last d.origin same))) (λ before. apart (first d.origin before));
  kept = zip_more (IsKept saved) trusts book t one entered.kept (record {
    origin = o;
    verifiers = v;
    cosigner = s;
    chain = elim takes.chain [
      | inl found ↦ inl (subst (λ (steps : List Step). IsAmong (saved_chain t.origin steps) saved) (sym c) (entered.others (saved_chain t.origin taken) found once))
      | inr none ↦ inr (subst (λ (os : List (List ℕ)). ¬ (IsAmong t.origin os)) entered.same_origins none.0, c ∙ none.1)
    ];
  });
}
  where
    first : (x : List ℕ) → IsAmong x (trusted_origins trusts) → IsAmong x (trusted_origins trusts ++ t.origin ∷ [])
    first x before = append x (trusted_origins trusts) before
      where
        append : (x : List ℕ) (os : List (List ℕ)) → IsAmong x os → IsAmong x (os ++ t.origin ∷ [])
        append x [] is = absurd is
        append x (y ∷ os) (inl same) = inl same
        append x (y ∷ os) (inr later) = inr (append x os later)

    last : (x : List ℕ) → x ≡ t.origin → IsAmong x (trusted_origins trusts ++ t.origin ∷ [])
    last x same = at_end (trusted_origins trusts)
      where
        at_end : (os : List (List ℕ)) → IsAmong x (os ++ t.origin ∷ [])
        at_end [] = inl (sym same)
        at_end (y ∷ os) = inr (at_end os)

-- the same of a list that shows the chains
pub took_at : {A : Type 0} (f : A → SavedChain) (items : List A) (place : ℕ) (origin : List ℕ) (e after : A) (taken : List Step) → place < length items
    → e ≡ slice_index_or items place e → f e ≡ (saved_chain origin taken) → f after ≡ (saved_chain origin []) → TakesChain origin (map f items) (map f (slice_set items place after)) taken
took_at f items place origin e after taken lt read before then =
    let there = shows_at f items (length items) place e (saved_chain origin taken) refl lt read before in
    let set : slice_set (map f items) place (saved_chain origin []) ≡ map f (slice_set items place after) =
    ap (λ (c : SavedChain). slice_set (map f items) place c) (sym then) ∙ sym (map-set f items place after) in
    subst (λ (new : List SavedChain). TakesChain origin (map f items) new taken) set (took_one origin (map f items) place taken there)

pub took_nothing : {A : Type 0} (f : A → SavedChain) (g : A → List ℕ) (items : List A) (origin : List ℕ) (taken : List Step) → ((x : A) → g x ≡ (f x).origin)
    → ((i : ℕ) → slice_get (map g items) i ≢ Some origin) → taken ≡ [] → TakesChain origin (map f items) (map f items) taken
took_nothing f g items origin taken same none empty =
    let here = shown_twice f (λ c. c.origin) g items same in
    subst (λ (steps : List Step). TakesChain origin (map f items) (map f items) steps) (sym empty)
    (took_none origin (map f items) (subst (λ (os : List (List ℕ)). (i : ℕ) → slice_get os i ≢ Some origin) here none))

-- an origin that comes once isn't among those before it
pub not_before : (done rest all : List Trusted) (t : Trusted) → done ++ t ∷ rest ≡ all → ¬ (HasTwice (trusted_origins all)) → ¬ (IsAmong t.origin (trusted_origins done))
not_before done rest all t whole once is =
    let split : trusted_origins (done ++ t ∷ rest) ≡ trusted_origins done ++ t.origin ∷ trusted_origins rest = map-append (λ (u : Trusted). u.origin) done (t ∷ rest) in
    once (subst (λ (ts : List Trusted). HasTwice (trusted_origins ts)) whole (subst HasTwice (sym split) (comes_again t.origin (trusted_origins done) (trusted_origins rest) is)))

-- a name that is among those of all
pub named_next : (done rest all : List Trusted) (t : Trusted) → done ++ t ∷ rest ≡ all → All IsKeyName (cosigner_names all) → IsKeyName t.cosigner.name
named_next done rest all t whole named = go done (subst (λ (ts : List Trusted). All IsKeyName (cosigner_names ts)) (sym whole) named)
  where
    go : (ts : List Trusted) → All IsKeyName (cosigner_names (ts ++ t ∷ rest)) → IsKeyName t.cosigner.name
    go [] each = All-head IsKeyName t.cosigner.name (cosigner_names rest) each
    go (u ∷ ts) each = go ts (All-tail IsKeyName u.cosigner.name (cosigner_names (ts ++ t ∷ rest)) each)

-- the same of lists that show the trusts and the book
pub entered_push : {E G : Type 0} (trusted : E → Trusted) (shown : G → Witnessed) (saved left now : List SavedChain) (done : List E) (entries : List G) (t : E) (e : G) (taken : List Step)
    → HasEntered saved left (map trusted done) (map shown entries) → ¬ (IsAmong (trusted t).origin (trusted_origins (map trusted done))) → TakesChain (trusted t).origin left now taken
    → (shown e).origin ≡ (trusted t).origin → (shown e).verifiers ≡ (trusted t).verifiers → (shown e).cosigner ≡ (trusted t).cosigner → (shown e).chain ≡ taken
    → HasEntered saved now (map trusted (done ++ t ∷ [])) (map shown (entries ++ e ∷ []))
entered_push trusted shown saved left now done entries t e taken entered once takes o v s c =
    subst (λ (ts : List Trusted). HasEntered saved now ts (map shown (entries ++ e ∷ []))) (sym (map-append trusted done (t ∷ [])))
    (subst (λ (book : List Witnessed). HasEntered saved now (map trusted done ++ trusted t ∷ []) book) (sym (map-append shown entries (e ∷ [])))
    (entered_more saved left now (map trusted done) (map shown entries) (trusted t) (shown e) taken entered once takes o v s c))

-- what was entered of all the trusts
pub enters : (saved left : List SavedChain) (done all : List Trusted) (book : List Witnessed) → HasEntered saved left done book → done ≡ all → AllZip (IsKept saved) all book
enters saved left done all book entered same = subst (λ (ts : List Trusted). AllZip (IsKept saved) ts book) same entered.kept

-- a chain breaks at this position
pub breaks_at : (H : Digest) (done : List SavedChain) (c : SavedChain) (rest all : List SavedChain) (place link : ℕ) → place ≡ length done → done ++ c ∷ rest ≡ all
    → All (λ d. IsChain H d.steps) done → IsFirstBreak H c.steps link → IsFirstBroken H all place link
breaks_at H done c rest all place link here whole each breaks =
    subst (λ (n : ℕ). IsFirstBroken H all n link) (sym here) (breaks_next H done c rest all link whole each breaks)

-- ---- what the lists of trusts and chains show

pub once_to : {E C : Type 0} (trusted : E → Trusted) (origin : E → List ℕ) (keys : E → List Key) (saved : C → SavedChain) (named : C → List ℕ) (trusts : List E) (chains : List C)
    → ((t : E) → origin t ≡ (trusted t).origin) → ((t : E) → keys t ≡ (trusted t).verifiers) → ((c : C) → named c ≡ (saved c).origin)
    → ¬ (HasTwice (map origin trusts)) × ¬ (HasTwice (map named chains)) × All HasEachKeyOnce (map keys trusts)
    → AreNamedOnce (map trusted trusts) (map saved chains)
once_to trusted origin keys saved named trusts chains o k n once = record {
  trusts_once = subst (λ (os : List (List ℕ)). ¬ (HasTwice os)) (shown_twice trusted (λ t. t.origin) origin trusts o) once.0;
  chains_once = subst (λ (os : List (List ℕ)). ¬ (HasTwice os)) (shown_twice saved (λ c. c.origin) named chains n) once.1;
  keys_once = subst (All HasEachKeyOnce) (shown_twice trusted (λ t. t.verifiers) keys trusts k) once.2;
}

pub once_from : {E C : Type 0} (trusted : E → Trusted) (origin : E → List ℕ) (keys : E → List Key) (saved : C → SavedChain) (named : C → List ℕ) (trusts : List E) (chains : List C)
    → ((t : E) → origin t ≡ (trusted t).origin) → ((t : E) → keys t ≡ (trusted t).verifiers) → ((c : C) → named c ≡ (saved c).origin)
    → AreNamedOnce (map trusted trusts) (map saved chains)
    → ¬ (HasTwice (map origin trusts)) × ¬ (HasTwice (map named chains)) × All HasEachKeyOnce (map keys trusts)
once_from trusted origin keys saved named trusts chains o k n once = (
  subst (λ (os : List (List ℕ)). ¬ (HasTwice os)) (sym (shown_twice trusted (λ t. t.origin) origin trusts o)) once.trusts_once,
  subst (λ (os : List (List ℕ)). ¬ (HasTwice os)) (sym (shown_twice saved (λ c. c.origin) named chains n)) once.chains_once,
  subst (All HasEachKeyOnce) (sym (shown_twice trusted (λ t. t.verifiers) keys trusts k)) once.keys_once,
)

pub trusted_to : {E C : Type 0} (trusted : E → Trusted) (origin : E → List ℕ) (saved : C → SavedChain) (named : C → List ℕ) (trusts : List E) (chains : List C)
    → ((t : E) → origin t ≡ (trusted t).origin) → ((c : C) → named c ≡ (saved c).origin)
    → All (λ o. IsAmong o (map origin trusts)) (map named chains) → All (IsTrusted (map trusted trusts)) (chain_origins (map saved chains))
trusted_to trusted origin saved named trusts chains o n each =
    subst (λ (os : List (List ℕ)). All (λ x. IsAmong x os) (chain_origins (map saved chains))) (shown_twice trusted (λ t. t.origin) origin trusts o)
    (subst (All (λ x. IsAmong x (map origin trusts))) (shown_twice saved (λ c. c.origin) named chains n) each)

pub untrusted_to : {E C : Type 0} (trusted : E → Trusted) (origin : E → List ℕ) (saved : C → SavedChain) (named : C → List ℕ) (trusts : List E) (chains : List C) (place : ℕ)
    → ((t : E) → origin t ≡ (trusted t).origin) → ((c : C) → named c ≡ (saved c).origin)
    → IsFirstNot (λ o. IsAmong o (map origin trusts)) (map named chains) place → IsFirstNot (IsTrusted (map trusted trusts)) (chain_origins (map saved chains)) place
untrusted_to trusted origin saved named trusts chains place o n first =
    subst (λ (os : List (List ℕ)). IsFirstNot (λ x. IsAmong x os) (chain_origins (map saved chains)) place) (shown_twice trusted (λ t. t.origin) origin trusts o)
    (subst (λ (os : List (List ℕ)). IsFirstNot (λ x. IsAmong x (map origin trusts)) os place) (shown_twice saved (λ c. c.origin) named chains n) first)

pub names_to : {E : Type 0} (trusted : E → Trusted) (name : E → List ℕ) (trusts : List E) → ((t : E) → name t ≡ (trusted t).cosigner.name)
    → All IsKeyName (map name trusts) → All IsKeyName (cosigner_names (map trusted trusts))
names_to trusted name trusts n each = subst (All IsKeyName) (shown_twice trusted (λ t. t.cosigner.name) name trusts n) each

pub bad_name_to : {E : Type 0} (trusted : E → Trusted) (name : E → List ℕ) (trusts : List E) (place : ℕ) → ((t : E) → name t ≡ (trusted t).cosigner.name)
    → IsFirstNot IsKeyName (map name trusts) place → IsFirstNot IsKeyName (cosigner_names (map trusted trusts)) place
bad_name_to trusted name trusts place n first = subst (λ (ns : List (List ℕ)). IsFirstNot IsKeyName ns place) (shown_twice trusted (λ t. t.cosigner.name) name trusts n) first

-- the book that is opened
pub opened_to : (H : Digest) (trusts : List Trusted) (checked chains : List SavedChain) (book : List Witnessed) → AreNamedOnce trusts chains
    → All (IsTrusted trusts) (chain_origins chains) → All IsKeyName (cosigner_names trusts) → All (λ c. IsChain H c.steps) chains → checked ≡ chains
    → AllZip (IsKept checked) trusts book → OpensBook H trusts chains book
opened_to H trusts checked chains book once listed named lawful same kept = record {
  once = once;
  trusted = listed;
  named = named;
  lawful = lawful;
  kept = subst (λ (cs : List SavedChain). AllZip (IsKept cs) trusts book) same kept;
}

pub origins_once : {E : Type 0} (trusted : E → Trusted) (origin : E → List ℕ) (trusts : List E) → ((t : E) → origin t ≡ (trusted t).origin)
    → ¬ (HasTwice (map origin trusts)) → ¬ (HasTwice (trusted_origins (map trusted trusts)))
origins_once trusted origin trusts o once = subst (λ (os : List (List ℕ)). ¬ (HasTwice os)) (shown_twice trusted (λ t. t.origin) origin trusts o) once
