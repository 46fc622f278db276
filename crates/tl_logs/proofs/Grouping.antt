-- Laws of the logs that keys belong to, when one key more follows.
use Rattle.std.proofs.Common.{◌≡◌, ◌≢◌, ℕ, zero, suc, Bool, true, false, List, [], ◌∷◌, ◌++◌, map, refl, sym, ap, subst, ◌∙◌, cond, inl, inr, Some, All, get_or}
use Rattle.std.specs.Prelude.{◌||◌, not, bytes_eq, filter, slice_get, slice_set}
use Rattle.std.specs.List.{list_any}
use Rattle.std.proofs.lemmas.Bool.{cases_Bool, or_cases}
use Rattle.std.proofs.lemmas.List.{map-append, append-nil}
use Rattle.std.proofs.lemmas.List.Elements.{All-push, All-set, filter-append}
use Rattle.std.proofs.lemmas.Option.{get_or_from_slice_get, slice_get_within}
use Rattle.std.proofs.lemmas.List.Folds.{list_any-append}
use Rattle.std.proofs.lemmas.Slice.Eq.{bytes_eq-Decides}
use Rattle.tl_key.specs.NoteKey.{PublicKey}
use Rattle.tl_logs.specs.LogsFile.{HasEachOnce, HasTwice, IsAmong, IsKnown, Log, LogKey, key_name, keys_of, log, logs, origins}
use Rattle.tl_logs.specs.Inner.ByOrigin.{log_origins}
use Rattle.tl_logs.specs.Inner.Placing.{HasKey, IsOneOf, PutsKey}
use Rattle.tl_logs.proofs.ListLaws.{among_at, among_none, among_or, among_append, among_last, once_more, stands_at}

-- the key is of this origin
abbrev is_of : List ℕ → LogKey → Bool
is_of origin l = bytes_eq l.origin origin

-- a key of this origin is among them
abbrev has : List ℕ → List LogKey → Bool
has origin given = list_any (is_of origin) given

-- ---- the origins

last_left : (same has : Bool) (x : List ℕ) → cond has [] (cond (not same) (x ∷ []) []) ≡ cond (same || has) [] (x ∷ [])
last_left true true x = refl
last_left true false x = refl
last_left false true x = refl
last_left false false x = refl

filter_last : (p : List ℕ → Bool) (has : Bool) (x : List ℕ) → filter p (cond has [] (x ∷ [])) ≡ cond has [] (cond (p x) (x ∷ []) [])
filter_last p true x = refl
filter_last p false x = refl

-- one key more
pub origins_more : (given : List LogKey) (l : LogKey) → origins (given ++ l ∷ []) ≡ origins given ++ cond (has l.origin given) [] (l.origin ∷ [])
origins_more [] l = refl
origins_more (first ∷ given) l =
    let other : List ℕ → Bool = λ o. not (bytes_eq first.origin o) in
    let last = cond (has l.origin given) [] (l.origin ∷ []) in
    ap (λ (os : List (List ℕ)). first.origin ∷ filter other os) (origins_more given l)
    ∙ ap (λ (os : List (List ℕ)). first.origin ∷ os) (filter-append other (origins given) last)
    ∙ ap (λ (os : List (List ℕ)). first.origin ∷ (filter other (origins given) ++ os))
    (filter_last other (has l.origin given) l.origin ∙ last_left (bytes_eq first.origin l.origin) (has l.origin given) l.origin)

-- ---- the keys of an origin

last_key : (b : Bool) (l : LogKey) → map (λ (m : LogKey). m.key) (cond b (l ∷ []) []) ≡ cond b (l.key ∷ []) []
last_key true l = refl
last_key false l = refl

pub keys_more : (origin : List ℕ) (given : List LogKey) (l : LogKey) → keys_of origin (given ++ l ∷ []) ≡ keys_of origin given ++ cond (is_of origin l) (l.key ∷ []) []
keys_more origin given l =
    ap (map (λ (m : LogKey). m.key)) (filter-append (is_of origin) given (l ∷ []))
    ∙ map-append (λ (m : LogKey). m.key) (filter (is_of origin) given) (cond (is_of origin l) (l ∷ []) [])
    ∙ ap (λ (t : List PublicKey). keys_of origin given ++ t) (last_key (is_of origin l) l)

nothing_passes : {A : Type 0} (p : A → Bool) (xs : List A) → list_any p xs ≡ false → filter p xs ≡ []
nothing_passes p [] none = refl
nothing_passes p (x ∷ xs) none = elim (cases_Bool (p x)) [
  | inl passes ↦ let bad : true ≡ false = ap (λ (b : Bool). b || list_any p xs) (sym passes) ∙ none in absurd cc
  | inr fails ↦
      let later : list_any p xs ≡ false = ap (λ (b : Bool). b || list_any p xs) (sym fails) ∙ none in
      ap (λ (b : Bool). cond b (x ∷ filter p xs) (filter p xs)) fails ∙ nothing_passes p xs later
]

-- ---- what is known of the origins of keys

pub record Grouped (given : List LogKey) : Type 0 where
  pub once : ¬ (HasTwice (origins given))
  pub known : (origin : List ℕ) → IsAmong origin (origins given) → has origin given ≡ true
  pub among : (origin : List ℕ) → has origin given ≡ true → IsAmong origin (origins given)

pub grouped_none : Grouped []
grouped_none = record { once = λ twice. twice; known = λ origin is. absurd is; among = λ origin is. absurd cc }

or_true : (a b : Bool) → a ≡ true → a || b ≡ true
or_true a b is = ap (λ (c : Bool). c || b) is

true_or : (a b : Bool) → b ≡ true → a || b ≡ true
true_or true b is = refl
true_or false b is = is

has_more : (origin : List ℕ) (given : List LogKey) (l : LogKey) → has origin (given ++ l ∷ []) ≡ has origin given || has origin (l ∷ [])
has_more origin given l = list_any-append (is_of origin) given (l ∷ [])

has_itself : (l : LogKey) (origin : List ℕ) → l.origin ≡ origin → has origin (l ∷ []) ≡ true
has_itself l origin same = ap (λ (b : Bool). b || false) ((bytes_eq-Decides l.origin origin).1 same)

has_only : (l : LogKey) (origin : List ℕ) → has origin (l ∷ []) ≡ true → l.origin ≡ origin
has_only l origin is = elim (or_cases (is_of origin l) false is) [
  | inl same ↦ (bytes_eq-Decides l.origin origin).0 same
  | inr bad ↦ absurd cc
]

-- one key more of an origin that is known
more_known : (given : List LogKey) (l : LogKey) → Grouped given → has l.origin given ≡ true → origins (given ++ l ∷ []) ≡ origins given
more_known given l is known = origins_more given l ∙ ap (λ (b : Bool). origins given ++ cond b [] (l.origin ∷ [])) known ∙ append-nil (origins given)

-- and of a new one
more_new : (given : List LogKey) (l : LogKey) → has l.origin given ≡ false → origins (given ++ l ∷ []) ≡ origins given ++ l.origin ∷ []
more_new given l new = origins_more given l ∙ ap (λ (b : Bool). origins given ++ cond b [] (l.origin ∷ [])) new

pub grouped_more : (given : List LogKey) (l : LogKey) → Grouped given → Grouped (given ++ l ∷ [])
grouped_more given l is = elim (cases_Bool (has l.origin given)) [
  | inl known ↦
      let same = more_known given l is known in
      record {
        once = rw same is.once;
        known = λ origin among. has_more origin given l ∙ or_true (has origin given) (has origin (l ∷ [])) (is.known origin (rw same at among));
        among = λ origin any. rw same
            (elim (or_cases (has origin given) (has origin (l ∷ [])) (sym (has_more origin given l) ∙ any)) [
              | inl before ↦ is.among origin before
              | inr last ↦ rw (sym (has_only l origin last)) (is.among l.origin known)
            ]);
      }
  | inr new ↦
      let same = more_new given l new in
      let apart : ¬ (IsAmong l.origin (origins given)) = λ among. let bad : false ≡ true = sym new ∙ is.known l.origin among in absurd cc in
      record {
        once = rw same (once_more (origins given) l.origin is.once apart);
        known = λ origin among. has_more origin given l
            ∙ elim (among_or origin l.origin (origins given) (rw same at among)) [
              | inl last ↦ true_or (has origin given) (has origin (l ∷ [])) (has_itself l origin last)
              | inr before ↦ or_true (has origin given) (has origin (l ∷ [])) (is.known origin before)
            ];
        among = λ origin any. rw same
            (elim (or_cases (has origin given) (has origin (l ∷ [])) (sym (has_more origin given l) ∙ any)) [
              | inl before ↦ among_append origin (origins given) (l.origin ∷ []) (is.among origin before)
              | inr last ↦ rw (sym (has_only l origin last)) (among_last l.origin (origins given) [])
            ]);
      }
]

-- ---- the logs

-- a function changed at one value only, for values that aren't this one
same_others : {A B : Type 0} (f g : A → B) (x : A) (xs : List A) → ¬ (IsAmong x xs) → ((y : A) → y ≢ x → g y ≡ f y) → map g xs ≡ map f xs
same_others f g x [] apart same = refl
same_others f g x (y ∷ xs) apart same =
    ap (λ (z : _). z ∷ map g xs) (same y (λ e. apart (inl e))) ∙ ap (λ (zs : List _). f y ∷ zs) (same_others f g x xs (λ is. apart (inr is)) same)

-- for values of which one is this one
changed_once : {A B : Type 0} (f g : A → B) (x : A) (v : B) (xs : List A) (place : ℕ) → ¬ (HasTwice xs) → slice_get xs place ≡ Some x → g x ≡ v
    → ((y : A) → y ≢ x → g y ≡ f y) → map g xs ≡ slice_set (map f xs) place v
changed_once f g x v [] place once there now same = absurd cc
changed_once f g x v (y ∷ xs) zero once there now same =
    let e : y ≡ x = cc in
    let apart : ¬ (IsAmong x xs) = λ is. once (inl (subst (λ (z : _). IsAmong z xs) (sym e) is)) in
    ap (λ (z : _). z ∷ map g xs) (ap g e ∙ now) ∙ ap (λ (zs : List _). v ∷ zs) (same_others f g x xs apart same)
changed_once f g x v (y ∷ xs) (suc place) once there now same =
    let differ : y ≢ x = λ e. once (inl (subst (λ (z : _). IsAmong z xs) (sym e) (among_at xs place x there))) in
    ap (λ (z : _). z ∷ map g xs) (same y differ) ∙ ap (λ (zs : List _). f y ∷ zs) (changed_once f g x v xs place (λ t. once (inr t)) there now same)

abbrev log_of : List LogKey → List ℕ → Log
log_of given origin = log origin (keys_of origin given)

not_of : (l : LogKey) (origin : List ℕ) → origin ≢ l.origin → is_of origin l ≡ false
not_of l origin differ = elim (cases_Bool (is_of origin l)) [
  | inl same ↦ absurd (differ (sym ((bytes_eq-Decides l.origin origin).0 same)))
  | inr other ↦ other
]

other_log : (given : List LogKey) (l : LogKey) (origin : List ℕ) → origin ≢ l.origin → log_of (given ++ l ∷ []) origin ≡ log_of given origin
other_log given l origin differ =
    let same : keys_of origin (given ++ l ∷ []) ≡ keys_of origin given =
    keys_more origin given l ∙ ap (λ (b : Bool). keys_of origin given ++ cond b (l.key ∷ []) []) (not_of l origin differ) ∙ append-nil (keys_of origin given) in
    ap (λ (keys : List PublicKey). log origin keys) same

own_log : (given : List LogKey) (l : LogKey) → log_of (given ++ l ∷ []) l.origin ≡ log l.origin (keys_of l.origin given ++ l.key ∷ [])
own_log given l =
    let more : keys_of l.origin (given ++ l ∷ []) ≡ keys_of l.origin given ++ l.key ∷ [] =
    keys_more l.origin given l ∙ ap (λ (b : Bool). keys_of l.origin given ++ cond b (l.key ∷ []) []) ((bytes_eq-Decides l.origin l.origin).1 refl) in
    ap (λ (keys : List PublicKey). log l.origin keys) more

origins_of_logs : (given : List LogKey) (os : List (List ℕ)) → log_origins (map (log_of given) os) ≡ os
origins_of_logs given [] = refl
origins_of_logs given (o ∷ os) = ap (λ (t : List (List ℕ)). o ∷ t) (origins_of_logs given os)

-- a key that is added makes the logs those of one key more
pub puts_more : (given : List LogKey) (l : LogKey) (new : List Log) → Grouped given → PutsKey l (logs given) new
    → new ≡ logs (given ++ l ∷ [])
puts_more given l new is (inl (place, before, there, apart, now)) =
    let at = stands_at (log_of given) (origins given) place (log l.origin before) there in
    let named : at.0 ≡ l.origin = ap (λ (c : Log). c.origin) at.2 in
    let here : slice_get (origins given) place ≡ Some l.origin = at.1 ∙ ap (λ (o : List ℕ). Some o) named in
    let earlier : keys_of l.origin given ≡ before = ap (λ (o : List ℕ). keys_of o given) (sym named) ∙ ap (λ (c : Log). c.keys) at.2 in
    let known = is.known l.origin (among_at (origins given) place l.origin here) in
    now
    ∙ sym (changed_once (log_of given) (log_of (given ++ l ∷ [])) l.origin (log l.origin (before ++ l.key ∷ [])) (origins given) place is.once here
    (own_log given l ∙ ap (λ (keys : List PublicKey). log l.origin (keys ++ l.key ∷ [])) earlier) (other_log given l))
    ∙ ap (map (log_of (given ++ l ∷ []))) (sym (more_known given l is known))
puts_more given l new is (inr (none, now)) =
    let apart : ¬ (IsAmong l.origin (origins given)) = λ among.
    among_none (log_origins (logs given)) l.origin none (subst (IsAmong l.origin) (sym (origins_of_logs given (origins given))) among) in
    let first : has l.origin given ≡ false = elim (cases_Bool (has l.origin given)) [ inl any ↦ absurd (apart (is.among l.origin any)) | inr fails ↦ fails ] in
    let empty : keys_of l.origin given ≡ [] = ap (map (λ (m : LogKey). m.key)) (nothing_passes (is_of l.origin) given first) in
    now
    ∙ sym (ap (map (log_of (given ++ l ∷ []))) (more_new given l first)
    ∙ map-append (log_of (given ++ l ∷ [])) (origins given) (l.origin ∷ [])
    ∙ ap (λ (cs : List Log). cs ++ log_of (given ++ l ∷ []) l.origin ∷ []) (same_others (log_of given) (log_of (given ++ l ∷ [])) l.origin (origins given) apart (other_log given l))
    ∙ ap (λ (c : Log). logs given ++ c ∷ []) (own_log given l ∙ ap (λ (keys : List PublicKey). log l.origin (keys ++ l.key ∷ [])) empty))

-- ---- keys that come twice

-- the keys at a position are those of the log
at_place : (given : List LogKey) (place : ℕ) (origin : List ℕ) (before : List PublicKey) → slice_get (logs given) place ≡ Some (log origin before) → keys_of origin given ≡ before
at_place given place origin before there =
    let at = stands_at (log_of given) (origins given) place (log origin before) there in
    let named : at.0 ≡ origin = ap (λ (c : Log). c.origin) at.2 in
    ap (λ (o : List ℕ). keys_of o given) (sym named) ∙ ap (λ (c : Log). c.keys) at.2

-- a log that has a key has it among the keys given
pub key_known : (given : List LogKey) (k : LogKey) → HasKey k (logs given) → IsKnown k given
key_known given k (place, before, there, is) = subst (IsOneOf k.key) (sym (at_place given place k.origin before there)) is

once_all : (known : List Log) (place : ℕ) (origin : List ℕ) (before : List PublicKey) → All HasEachOnce known → slice_get known place ≡ Some (log origin before) → HasEachOnce (log origin before)
once_all known place origin before each there =
    let within = slice_get_within known place (log origin before) there in
    let same : get_or known place (log origin before) ≡ log origin before = get_or_from_slice_get known place (log origin before) (log origin before) there in
    subst HasEachOnce same (each place (log origin before) within)

once_put : (origin : List ℕ) (before : List PublicKey) (key : PublicKey) → HasEachOnce (log origin before) → ¬ (IsOneOf key before) → HasEachOnce (log origin (before ++ key ∷ []))
once_put origin before key once apart =
    subst (λ (names : List (List ℕ × ℕ)). ¬ (HasTwice names)) (sym (map-append key_name before (key ∷ []))) (once_more (map key_name before) (key_name key) once apart)

once_one : (origin : List ℕ) (key : PublicKey) → HasEachOnce (log origin (key ∷ []))
once_one origin key (inl none) = none
once_one origin key (inr none) = none

-- a key that is added is in no log twice
pub once_puts : (k : LogKey) (old new : List Log) → All HasEachOnce old → PutsKey k old new → All HasEachOnce new
once_puts k old new each (inl (place, before, there, apart, now)) =
    subst (All HasEachOnce) (sym now)
    (All-set HasEachOnce old place (log k.origin (before ++ k.key ∷ [])) (once_put k.origin before k.key (once_all old place k.origin before each there) apart) each)
once_puts k old new each (inr (none, now)) =
    subst (All HasEachOnce) (sym now) (All-push HasEachOnce old (log k.origin (k.key ∷ [])) each (once_one k.origin k.key))
