-- Laws of the chains that lines state, when one line more follows.
use Rattle.std.proofs.Common.{◌≡◌, ◌≢◌, ℕ, zero, suc, Bool, true, false, List, [], ◌∷◌, ◌++◌, map, refl, sym, ap, subst, ◌∙◌, cond, inl, inr, Some}
use Rattle.std.specs.Prelude.{◌||◌, not, bytes_eq, filter, slice_get, slice_set}
use Rattle.std.specs.List.{list_any}
use Rattle.std.proofs.lemmas.Bool.{cases_Bool, or_cases}
use Rattle.std.proofs.lemmas.List.{map-append, append-nil}
use Rattle.std.proofs.lemmas.List.Elements.{filter-append}
use Rattle.std.proofs.lemmas.List.Folds.{list_any-append}
use Rattle.std.proofs.lemmas.Slice.Eq.{bytes_eq-Decides}
use Rattle.tl_proof.specs.Acceptance.{Step}
use Rattle.tl_witness.specs.ChainLine.{ChainLine, chains, origins, steps_of}
use Rattle.tl_witness.specs.ChainFields.{PutsStep}
use Rattle.tl_witness.specs.Open.{SavedChain, IsAmong, HasTwice, chain_origins, saved_chain}
use Rattle.tl_witness.proofs.ListLaws.{among_at, among_none, among_or, among_append, among_last}
use Rattle.tl_witness.proofs.PlaceLaws.{stands_at}

-- the line is of this origin
abbrev is_of : List ℕ → ChainLine → Bool
is_of origin l = bytes_eq l.origin origin

-- a line of this origin is among them
abbrev has : List ℕ → List ChainLine → Bool
has origin lines = list_any (is_of origin) lines

-- ---- the origins

last_left : (same has : Bool) (x : List ℕ) → cond has [] (cond (not same) (x ∷ []) []) ≡ cond (same || has) [] (x ∷ [])
last_left true true x = refl
last_left true false x = refl
last_left false true x = refl
last_left false false x = refl

filter_last : (p : List ℕ → Bool) (has : Bool) (x : List ℕ) → filter p (cond has [] (x ∷ [])) ≡ cond has [] (cond (p x) (x ∷ []) [])
filter_last p true x = refl
filter_last p false x = refl

-- one line more
pub origins_more : (lines : List ChainLine) (l : ChainLine) → origins (lines ++ l ∷ []) ≡ origins lines ++ cond (has l.origin lines) [] (l.origin ∷ [])
origins_more [] l = refl
origins_more (first ∷ lines) l =
    let other : List ℕ → Bool = λ o. not (bytes_eq first.origin o) in
    let last = cond (has l.origin lines) [] (l.origin ∷ []) in
    ap (λ (os : List (List ℕ)). first.origin ∷ filter other os) (origins_more lines l)
    ∙ ap (λ (os : List (List ℕ)). first.origin ∷ os) (filter-append other (origins lines) last)
    ∙ ap (λ (os : List (List ℕ)). first.origin ∷ (filter other (origins lines) ++ os))
    (filter_last other (has l.origin lines) l.origin ∙ last_left (bytes_eq first.origin l.origin) (has l.origin lines) l.origin)

-- ---- the steps of an origin

last_step : (b : Bool) (l : ChainLine) → map (λ (m : ChainLine). m.step) (cond b (l ∷ []) []) ≡ cond b (l.step ∷ []) []
last_step true l = refl
last_step false l = refl

pub steps_more : (origin : List ℕ) (lines : List ChainLine) (l : ChainLine) → steps_of origin (lines ++ l ∷ []) ≡ steps_of origin lines ++ cond (is_of origin l) (l.step ∷ []) []
steps_more origin lines l =
    ap (map (λ (m : ChainLine). m.step)) (filter-append (is_of origin) lines (l ∷ []))
    ∙ map-append (λ (m : ChainLine). m.step) (filter (is_of origin) lines) (cond (is_of origin l) (l ∷ []) [])
    ∙ ap (λ (t : List Step). steps_of origin lines ++ t) (last_step (is_of origin l) l)

nothing_passes : {A : Type 0} (p : A → Bool) (xs : List A) → list_any p xs ≡ false → filter p xs ≡ []
nothing_passes p [] none = refl
nothing_passes p (x ∷ xs) none = elim (cases_Bool (p x)) [
  | inl passes ↦ let bad : true ≡ false = ap (λ (b : Bool). b || list_any p xs) (sym passes) ∙ none in absurd cc
  | inr fails ↦
      let later : list_any p xs ≡ false = ap (λ (b : Bool). b || list_any p xs) (sym fails) ∙ none in
      ap (λ (b : Bool). cond b (x ∷ filter p xs) (filter p xs)) fails ∙ nothing_passes p xs later
]

-- ---- what is known of the origins of lines

pub record Grouped (lines : List ChainLine) : Type 0 where
  pub once : ¬ (HasTwice (origins lines))
  pub known : (origin : List ℕ) → IsAmong origin (origins lines) → has origin lines ≡ true
  pub among : (origin : List ℕ) → has origin lines ≡ true → IsAmong origin (origins lines)

pub grouped_none : Grouped []
grouped_none = record { once = λ twice. twice; known = λ origin is. absurd is; among = λ origin is. absurd cc }

once_more : {A : Type 0} (xs : List A) (x : A) → ¬ (HasTwice xs) → ¬ (IsAmong x xs) → ¬ (HasTwice (xs ++ x ∷ []))
once_more [] x once new (inl none) = none
once_more [] x once new (inr none) = none
once_more (y ∷ xs) x once new (inl again) = elim (among_or y x xs again) [
  | inl same ↦ new (inl (sym same))
  | inr is ↦ once (inl is)
]
once_more (y ∷ xs) x once new (inr twice) = once_more xs x (λ t. once (inr t)) (λ is. new (inr is)) twice

or_true : (a b : Bool) → a ≡ true → a || b ≡ true
or_true a b is = ap (λ (c : Bool). c || b) is

true_or : (a b : Bool) → b ≡ true → a || b ≡ true
true_or true b is = refl
true_or false b is = is

has_more : (origin : List ℕ) (lines : List ChainLine) (l : ChainLine) → has origin (lines ++ l ∷ []) ≡ has origin lines || has origin (l ∷ [])
has_more origin lines l = list_any-append (is_of origin) lines (l ∷ [])

has_itself : (l : ChainLine) (origin : List ℕ) → l.origin ≡ origin → has origin (l ∷ []) ≡ true
has_itself l origin same = ap (λ (b : Bool). b || false) ((bytes_eq-Decides l.origin origin).1 same)

has_only : (l : ChainLine) (origin : List ℕ) → has origin (l ∷ []) ≡ true → l.origin ≡ origin
has_only l origin is = elim (or_cases (is_of origin l) false is) [
  | inl same ↦ (bytes_eq-Decides l.origin origin).0 same
  | inr bad ↦ absurd cc
]

-- one line more of an origin that is known
more_known : (lines : List ChainLine) (l : ChainLine) → Grouped lines → has l.origin lines ≡ true → origins (lines ++ l ∷ []) ≡ origins lines
more_known lines l is known = origins_more lines l ∙ ap (λ (b : Bool). origins lines ++ cond b [] (l.origin ∷ [])) known ∙ append-nil (origins lines)

-- and of a new one
more_new : (lines : List ChainLine) (l : ChainLine) → has l.origin lines ≡ false → origins (lines ++ l ∷ []) ≡ origins lines ++ l.origin ∷ []
more_new lines l new = origins_more lines l ∙ ap (λ (b : Bool). origins lines ++ cond b [] (l.origin ∷ [])) new

pub grouped_more : (lines : List ChainLine) (l : ChainLine) → Grouped lines → Grouped (lines ++ l ∷ [])
grouped_more lines l is = elim (cases_Bool (has l.origin lines)) [
  | inl known ↦
      let same = more_known lines l is known in
      record {
        once = rw same is.once;
        known = λ origin among. has_more origin lines l ∙ or_true (has origin lines) (has origin (l ∷ [])) (is.known origin (rw same at among));
        among = λ origin any. rw same
            (elim (or_cases (has origin lines) (has origin (l ∷ [])) (sym (has_more origin lines l) ∙ any)) [
              | inl before ↦ is.among origin before
              | inr last ↦ rw (sym (has_only l origin last)) (is.among l.origin known)
            ]);
      }
  | inr new ↦
      let same = more_new lines l new in
      let apart : ¬ (IsAmong l.origin (origins lines)) = λ among. let bad : false ≡ true = sym new ∙ is.known l.origin among in absurd cc in
      record {
        once = rw same (once_more (origins lines) l.origin is.once apart);
        known = λ origin among. has_more origin lines l
            ∙ elim (among_or origin l.origin (origins lines) (rw same at among)) [
              | inl last ↦ true_or (has origin lines) (has origin (l ∷ [])) (has_itself l origin last)
              | inr before ↦ or_true (has origin lines) (has origin (l ∷ [])) (is.known origin before)
            ];
        among = λ origin any. rw same
            (elim (or_cases (has origin lines) (has origin (l ∷ [])) (sym (has_more origin lines l) ∙ any)) [
              | inl before ↦ among_append origin (origins lines) (l.origin ∷ []) (is.among origin before)
              | inr last ↦ rw (sym (has_only l origin last)) (among_last l.origin (origins lines) [])
            ]);
      }
]

-- ---- the chains

-- a function changed at one value only, for values that aren't this one
same_others : {A B : Type 0} (f g : A → B) (x : A) (xs : List A) → ¬ (IsAmong x xs) → ((y : A) → y ≢ x → g y ≡ f y) → map g xs ≡ map f xs
same_others f g x [] apart same = refl
same_others f g x (y ∷ xs) apart same =
    ap (λ (z : _). z ∷ map g xs) (same y (λ e. apart (inl e))) ∙ ap (λ (zs : List _). f y ∷ zs) (same_others f g x xs (λ is. apart (inr is)) same)

-- for values of which one is this one
changed_once : {A B : Type 0} (f g : A → B) (x : A) (v : B) (xs : List A) (place : ℕ) → ¬ (HasTwice xs) → slice_get xs place ≡ Some x → g x ≡ v
    → ((y : A) → y ≢ x → g y ≡ f y) → map g xs ≡ slice_set (map f xs) place v
changed_once f g x v [] place once there now same = absurd cc
changed_once f g x v (y ∷ xs) zero once there now same =
    let e : y ≡ x = cc in
    let apart : ¬ (IsAmong x xs) = λ is. once (inl (subst (λ (z : _). IsAmong z xs) (sym e) is)) in
    ap (λ (z : _). z ∷ map g xs) (ap g e ∙ now) ∙ ap (λ (zs : List _). v ∷ zs) (same_others f g x xs apart same)
changed_once f g x v (y ∷ xs) (suc place) once there now same =
    let differ : y ≢ x = λ e. once (inl (subst (λ (z : _). IsAmong z xs) (sym e) (among_at xs place x there))) in
    ap (λ (z : _). z ∷ map g xs) (same y differ) ∙ ap (λ (zs : List _). f y ∷ zs) (changed_once f g x v xs place (λ t. once (inr t)) there now same)

abbrev chain_of : List ChainLine → List ℕ → SavedChain
chain_of lines origin = saved_chain origin (steps_of origin lines)

not_of : (l : ChainLine) (origin : List ℕ) → origin ≢ l.origin → is_of origin l ≡ false
not_of l origin differ = elim (cases_Bool (is_of origin l)) [
  | inl same ↦ absurd (differ (sym ((bytes_eq-Decides l.origin origin).0 same)))
  | inr other ↦ other
]

other_chain : (lines : List ChainLine) (l : ChainLine) (origin : List ℕ) → origin ≢ l.origin → chain_of (lines ++ l ∷ []) origin ≡ chain_of lines origin
other_chain lines l origin differ =
    let same : steps_of origin (lines ++ l ∷ []) ≡ steps_of origin lines =
    steps_more origin lines l ∙ ap (λ (b : Bool). steps_of origin lines ++ cond b (l.step ∷ []) []) (not_of l origin differ) ∙ append-nil (steps_of origin lines) in
    ap (λ (steps : List Step). saved_chain origin steps) same

own_chain : (lines : List ChainLine) (l : ChainLine) → chain_of (lines ++ l ∷ []) l.origin ≡ saved_chain l.origin (steps_of l.origin lines ++ l.step ∷ [])
own_chain lines l =
    let more : steps_of l.origin (lines ++ l ∷ []) ≡ steps_of l.origin lines ++ l.step ∷ [] =
    steps_more l.origin lines l ∙ ap (λ (b : Bool). steps_of l.origin lines ++ cond b (l.step ∷ []) []) ((bytes_eq-Decides l.origin l.origin).1 refl) in
    ap (λ (steps : List Step). saved_chain l.origin steps) more

origins_of_chains : (lines : List ChainLine) (os : List (List ℕ)) → chain_origins (map (chain_of lines) os) ≡ os
origins_of_chains lines [] = refl
origins_of_chains lines (o ∷ os) = ap (λ (t : List (List ℕ)). o ∷ t) (origins_of_chains lines os)

-- a step that is put makes the chains of one line more
pub puts_line : (lines : List ChainLine) (l : ChainLine) (new : List SavedChain) → Grouped lines → PutsStep l.origin l.step (chains lines) new
    → new ≡ chains (lines ++ l ∷ [])
puts_line lines l new is (inl (place, before, there, now)) =
    let at = stands_at (chain_of lines) (origins lines) place (saved_chain l.origin before) there in
    let named : at.0 ≡ l.origin = ap (λ (c : SavedChain). c.origin) at.2 in
    let here : slice_get (origins lines) place ≡ Some l.origin = at.1 ∙ ap (λ (o : List ℕ). Some o) named in
    let earlier : steps_of l.origin lines ≡ before = ap (λ (o : List ℕ). steps_of o lines) (sym named) ∙ ap (λ (c : SavedChain). c.steps) at.2 in
    let known = is.known l.origin (among_at (origins lines) place l.origin here) in
    now
    ∙ sym (changed_once (chain_of lines) (chain_of (lines ++ l ∷ [])) l.origin (saved_chain l.origin (before ++ l.step ∷ [])) (origins lines) place is.once here
    (own_chain lines l ∙ ap (λ (steps : List Step). saved_chain l.origin (steps ++ l.step ∷ [])) earlier) (other_chain lines l))
    ∙ ap (map (chain_of (lines ++ l ∷ []))) (sym (more_known lines l is known))
puts_line lines l new is (inr (none, now)) =
    let apart : ¬ (IsAmong l.origin (origins lines)) = λ among.
    among_none (chain_origins (chains lines)) l.origin none (subst (IsAmong l.origin) (sym (origins_of_chains lines (origins lines))) among) in
    let first : has l.origin lines ≡ false = elim (cases_Bool (has l.origin lines)) [ inl any ↦ absurd (apart (is.among l.origin any)) | inr fails ↦ fails ] in
    let empty : steps_of l.origin lines ≡ [] = ap (map (λ (m : ChainLine). m.step)) (nothing_passes (is_of l.origin) lines first) in
    now
    ∙ sym (ap (map (chain_of (lines ++ l ∷ []))) (more_new lines l first)
    ∙ map-append (chain_of (lines ++ l ∷ [])) (origins lines) (l.origin ∷ [])
    ∙ ap (λ (cs : List SavedChain). cs ++ chain_of (lines ++ l ∷ []) l.origin ∷ []) (same_others (chain_of lines) (chain_of (lines ++ l ∷ [])) l.origin (origins lines) apart (other_chain lines l))
    ∙ ap (λ (c : SavedChain). chains lines ++ c ∷ []) (own_chain lines l ∙ ap (λ (steps : List Step). saved_chain l.origin (steps ++ l.step ∷ [])) empty))
