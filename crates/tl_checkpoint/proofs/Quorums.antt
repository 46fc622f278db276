-- Cosignatures by several witnesses: what holds of the lines before a place, and of one more.
use Rattle.std.proofs.Common.{◌≡◌, ◌≢◌, ℕ, zero, suc, ◌+◌, ◌<◌, ◌≤◌, inl, inr, ◌⊎◌, List, [], ◌∷◌, ◌++◌, length, map, take, get_or, refl, sym, ap, subst, ◌∙◌, arith, All, Some, None, Option}
use Rattle.std.specs.Prelude.{slice_get, MatchOption}
use Rattle.std.specs.List.{AllPairs, Any}
use Rattle.std.proofs.lemmas.List.{length-map, take_more, get_or-map, take_all, length_push, get_or_default, get_or_append_left, length-take-le}
use Rattle.std.proofs.lemmas.Bool.{cases_lt}
use Rattle.std.proofs.lemmas.List.Elements.{All-push}
use Rattle.std.proofs.lemmas.List.Quantifiers.{all_pairs_push, Any-push}
use Rattle.std.proofs.lemmas.Option.{slice_get-get_or, slice_get_within, get_or_from_slice_get}
use Rattle.tl_note.specs.Key.{Key}
use Rattle.tl_note.specs.Note.{Signature}
use Rattle.tl_checkpoint.specs.declared.quorum.Cosigned.{Cosigned}
use Rattle.tl_checkpoint.specs.Cosignature.{IsCosignature}
use Rattle.tl_checkpoint.specs.Inner.Keeping.{IsOfNone, IsRepeated, Keeps, KeepsNew}
use Rattle.tl_checkpoint.specs.Quorum.{AreApart, AreFirst, IsBy, IsOfSome}

-- ---- a list with one element more

get_old : {X : Type 0} (xs : List X) (y : X) (i : ℕ) → i < length xs → slice_get (xs ++ y ∷ []) i ≡ slice_get xs i
get_old [] y i less = absurd (omega (arith, less))
get_old (x ∷ xs) y zero less = refl
get_old (x ∷ xs) y (suc i) less = get_old xs y i (omega (arith, less))

get_new : {X : Type 0} (xs : List X) (y : X) → slice_get (xs ++ y ∷ []) (length xs) ≡ Some y
get_new [] y = refl
get_new (x ∷ xs) y = get_new xs y

same_some : {X : Type 0} (x y : X) → Some x ≡ Some y → x ≡ y
same_some x y e = cc

-- an element of a list that has one
first_or : {X : Type 0} (xs : List X) (n : ℕ) → n < length xs → X
first_or [] n less = absurd (omega (arith, less))
first_or (x ∷ xs) n less = x

any_still : {X : Type 0} (P : X → Type 0) (xs : List X) (y : X) → Any P xs → Any P (xs ++ y ∷ [])
any_still P xs y (k, x, less, at, is) = (k, x, omega (arith, less, length_push xs y), get_or_append_left xs (y ∷ []) x k less ∙ at, is)

-- ---- the witnesses before a place

-- the key of the witness at a place
module _ {B : Type 0} (view : B → Key) (xs : List B) where
  pub key_at : (i : ℕ) (x : B) → i < length xs → x ≡ get_or xs i x → slice_get (map view xs) i ≡ Some (view x)
  key_at i x lt is = slice_get-get_or (map view xs) i (view x) (omega (arith, lt, length-map xs view)) ∙ ap (λ (k : Key). Some k) (get_or-map view xs i x (view x) lt ∙ ap view (sym is))

-- the names of the witnesses before a place
module _ {B : Type 0} (view : B → Key) (xs : List B) where
  name_at : (i : ℕ) (x : B) (d : Key) → i < length xs → x ≡ get_or xs i x → get_or (map view xs) i d ≡ view x
  name_at i x d lt is = get_or_from_slice_get (map view xs) i (view x) d (key_at view xs i x lt is)

  -- none of those before `n` is that of the one at a place
  abbrev pub IsNewBefore : ℕ → ℕ → Type 0
  IsNewBefore place n = (i : ℕ) (d : Key) → i < n → (get_or (map view xs) i d).name ≡ (get_or (map view xs) place d).name → ⊥

  pub new_more : (place n : ℕ) (x y : B) → place < length xs → n < length xs → x ≡ get_or xs place x → y ≡ get_or xs n y → ((view y).name ≡ (view x).name → ⊥) → IsNewBefore place n → IsNewBefore place (n + 1)
  new_more place n x y inside less at_x at_y differ before i d sooner same =
      elim (cases_lt i n) as (λ _. ⊥) [
        | inl earlier ↦ before i d earlier same
        | inr later ↦
            let here : i ≡ n = omega (arith, sooner, later) in
            differ (ap (λ (k : Key). k.name) (sym (name_at n y d less at_y)) ∙ ap (λ (m : ℕ). (get_or (map view xs) m d).name) (sym here) ∙ same ∙ ap (λ (k : Key). k.name) (name_at place x d inside at_x))
      ]

  pub repeated_at : (place n : ℕ) (x y : B) → place < length xs → n < place → x ≡ get_or xs place x → y ≡ get_or xs n y → (view y).name ≡ (view x).name → IsRepeated (map view xs) place
  repeated_at place n x y inside less at_x at_y same =
      (n, less, λ d. ap (λ (k : Key). k.name) (name_at n y d (omega (arith, inside, less)) at_y) ∙ same ∙ ap (λ (k : Key). k.name) (sym (name_at place x d inside at_x)))

  pub new_all : (place n : ℕ) (x : B) → place ≤ n → IsNewBefore place n → IsRepeated (map view xs) place → ⊥
  new_all place n x le before is = before is.0 (view x) (omega (arith, le, is.1)) (is.2 (view x))

-- no two of the witnesses before a place have one name
abbrev pub AreApartBefore : List Key → ℕ → Type 0
AreApartBefore keys n = (i j : ℕ) (d : Key) → i < j → j < n → (get_or keys i d).name ≡ (get_or keys j d).name → ⊥

pub apart_more : (keys : List Key) (n : ℕ) → n < length keys → (IsRepeated keys n → ⊥) → AreApartBefore keys n → AreApartBefore keys (n + 1)
apart_more keys n inside fresh before i j d less sooner same =
    elim (cases_lt j n) as (λ _. ⊥) [
      | inl earlier ↦ before i j d less earlier same
      | inr later ↦
          let here : j ≡ n = omega (arith, sooner, later) in
          let at_n : (get_or keys i d).name ≡ (get_or keys n d).name = same ∙ ap (λ (m : ℕ). (get_or keys m d).name) here in
          fresh (i, omega (arith, less, here), λ e. ap (λ (k : Key). k.name) (get_or_default keys i e d (omega (arith, less, here, inside))) ∙ at_n ∙ ap (λ (k : Key). k.name) (get_or_default keys n d e inside))
    ]

pub apart_all : (keys : List Key) (n : ℕ) → length keys ≤ n → AreApartBefore keys n → AreApart keys
apart_all keys n le before i j d less inside same = before i j d less (omega (arith, le, inside)) same

pub not_apart : (keys : List Key) (n : ℕ) → n < length keys → IsRepeated keys n → AreApart keys → ⊥
not_apart keys n inside is apart = apart is.0 n (first_or keys n inside) is.1 inside (is.2 (first_or keys n inside))

module _ (text : List ℕ) (keys : List Key) (line : Signature) where
  -- it is a cosignature by none of the witnesses before this place
  abbrev pub IsOfNoneBefore : ℕ → Type 0
  IsOfNoneBefore n = (place time : ℕ) → place < n → IsOfSome text keys line place time → ⊥

  pub none_more : (n : ℕ) (key : Key) → slice_get keys n ≡ Some key → ((time : ℕ) → IsCosignature text key line time → ⊥) → IsOfNoneBefore n → IsOfNoneBefore (n + 1)
  none_more n key at never before place time less is =
      elim (cases_lt place n) as (λ _. ⊥) [
        | inl sooner ↦ before place time sooner is
        | inr later ↦
            let here : place ≡ n = omega (arith, less, later) in
            let key_is : is.0 ≡ key = same_some is.0 key (sym is.1 ∙ ap (slice_get keys) here ∙ at) in
            never time (subst (λ (k : Key). IsCosignature text k line time) key_is is.2)
      ]

  pub none_all : (n : ℕ) → length keys ≤ n → IsOfNoneBefore n → IsOfNone text keys line
  none_all n le before place time is = before place time (omega (arith, le, slice_get_within keys place is.0 is.1)) is

-- ---- the lines before a place

-- a line has one witness
one_witness : (text : List ℕ) (keys : List Key) (line : Signature) → AreApart keys → (p q t u : ℕ) → IsOfSome text keys line p t → IsOfSome text keys line q u → p ≡ q
one_witness text keys line apart p q t u a b =
    let name : a.0.name ≡ b.0.name = sym a.2.name ∙ b.2.name in
    let at_p : get_or keys p a.0 ≡ a.0 = get_or_from_slice_get keys p a.0 a.0 a.1 in
    let at_q : get_or keys q a.0 ≡ b.0 = get_or_from_slice_get keys q b.0 a.0 b.1 in
    elim (cases_lt p q) as (λ _. p ≡ q) [
      | inl less ↦ absurd (apart p q a.0 less (slice_get_within keys q b.0 b.1) (ap (λ (k : Key). k.name) at_p ∙ name ∙ sym (ap (λ (k : Key). k.name) at_q)))
      | inr le ↦
          elim (cases_lt q p) as (λ _. p ≡ q) [
            | inl less ↦ absurd (apart q p a.0 less (slice_get_within keys p a.0 a.1) (ap (λ (k : Key). k.name) at_q ∙ sym name ∙ sym (ap (λ (k : Key). k.name) at_p)))
            | inr ge ↦ omega (arith, le, ge)
          ]
    ]

module _ (text : List ℕ) (keys : List Key) (done : List Signature) (line : Signature) where
  still : (c : Cosigned) → IsBy text keys done c → IsBy text keys (done ++ line ∷ []) c
  still c is = (is.0, get_old done line c.line (slice_get_within done c.line is.0 is.1) ∙ is.1, is.2)

  -- what a cosignature among one line more is
  split : (c : Cosigned) → IsBy text keys (done ++ line ∷ []) c → IsBy text keys done c ⊎ ((c.line ≡ length done) × IsOfSome text keys line c.witness c.time)
  split c is =
      let within = slice_get_within (done ++ line ∷ []) c.line is.0 is.1 in
      elim (cases_lt c.line (length done)) as (λ _. IsBy text keys done c ⊎ ((c.line ≡ length done) × IsOfSome text keys line c.witness c.time)) [
        | inl less ↦ inl (is.0, sym (get_old done line c.line less) ∙ is.1, is.2)
        | inr le ↦
            let here : c.line ≡ length done = omega (arith, le, within, length_push done line) in
            let line_is : is.0 ≡ line = same_some is.0 line (sym is.1 ∙ ap (slice_get (done ++ line ∷ [])) here ∙ get_new done line) in
            inr (here, subst (λ (l : Signature). IsOfSome text keys l c.witness c.time) line_is is.2)
      ]

  within_done : (c : Cosigned) → IsBy text keys done c → c.line < length done
  within_done c is = slice_get_within done c.line is.0 is.1

  -- a later line is no reason against a first one
  first_still : (found : List Cosigned) → AreFirst text keys done found → All (λ c. (d : Cosigned) → IsBy text keys (done ++ line ∷ []) d → d.witness ≡ c.witness → c.line ≤ d.line) found
  first_still found are k x less d is same =
      let c = get_or found k x in
      elim (split d is) as (λ _. c.line ≤ d.line) [
        | inl old ↦ are.first k x less d old same
        | inr new ↦ omega (arith, new.0, within_done c (are.each k x less))
      ]

  -- the line is by no witness
  pub first_none : (found : List Cosigned) → AreFirst text keys done found → IsOfNone text keys line → AreFirst text keys (done ++ line ∷ []) found
  first_none found are never = record {
    each = λ k x less. still (get_or found k x) (are.each k x less);
    rising = are.rising;
    apart = are.apart;
    first = first_still found are;
    all = λ c is. elim (split c is) as (λ _. Any (λ d. d.witness ≡ c.witness) found) [ inl old ↦ are.all c old | inr new ↦ absurd (never c.witness c.time new.1) ];
  }

  -- it is by a witness of whom an earlier line was found
  pub first_again : (found : List Cosigned) (witness time : ℕ) → AreApart keys → AreFirst text keys done found → IsOfSome text keys line witness time → Any (λ d. d.witness ≡ witness) found
      → AreFirst text keys (done ++ line ∷ []) found
  first_again found witness time apart are of was = record {
    each = λ k x less. still (get_or found k x) (are.each k x less);
    rising = are.rising;
    apart = are.apart;
    first = first_still found are;
    all = λ c is. elim (split c is) as (λ _. Any (λ d. d.witness ≡ c.witness) found) [
      | inl old ↦ are.all c old
      | inr new ↦
          let same : witness ≡ c.witness = one_witness text keys line apart witness c.witness time c.time of new.1 in
          subst (λ (w : ℕ). Any (λ d. d.witness ≡ w) found) same was
    ];
  }

  -- it is the first of its witness
  pub first_more : (found : List Cosigned) (c : Cosigned) → AreApart keys → AreFirst text keys done found → c.line ≡ length done → IsOfSome text keys line c.witness c.time → (Any (λ d. d.witness ≡ c.witness) found → ⊥)
      → AreFirst text keys (done ++ line ∷ []) (found ++ c ∷ [])
  first_more found c apart are here of none =
      let by : IsBy text keys (done ++ line ∷ []) c = (line, ap (slice_get (done ++ line ∷ [])) here ∙ get_new done line, of) in
      record {
        each = All-push (IsBy text keys (done ++ line ∷ [])) found c (λ k x less. still (get_or found k x) (are.each k x less)) by;
        rising = all_pairs_push (λ (a b : Cosigned). a.line < b.line) found c are.rising (λ k x less. omega (arith, here, within_done (get_or found k x) (are.each k x less)));
        apart = all_pairs_push (λ (a b : Cosigned). a.witness ≢ b.witness) found c are.apart (λ k x less same. none (k, get_or found k x, less, get_or_default found k (get_or found k x) x less, same));
        first = All-push (λ (a : Cosigned). (d : Cosigned) → IsBy text keys (done ++ line ∷ []) d → d.witness ≡ a.witness → a.line ≤ d.line) found c (first_still found are)
            (λ d is same. elim (split d is) as (λ _. c.line ≤ d.line) [
              | inl old ↦ absurd (none (subst (λ (w : ℕ). Any (λ e. e.witness ≡ w) found) same (are.all d old)))
              | inr new ↦ omega (arith, here, new.0)
            ]);
        all = λ d is. elim (split d is) as (λ _. Any (λ e. e.witness ≡ d.witness) (found ++ c ∷ [])) [
          | inl old ↦ any_still (λ e. e.witness ≡ d.witness) found c (are.all d old)
          | inr new ↦
              let same : c.witness ≡ d.witness = one_witness text keys line apart c.witness d.witness c.time d.time of new.1 in
              Any-push (λ (e : Cosigned). e.witness ≡ d.witness) found c same
        ];
      }

-- one line of a list more
module _ (text : List ℕ) (keys : List Key) (lines : List Signature) (place : ℕ) (line : Signature) (at : slice_get lines place ≡ Some line) where
  within : place < length lines
  within = slice_get_within lines place line at

  more_lines : take place lines ++ line ∷ [] ≡ take (place + 1) lines
  more_lines = sym (take_more lines place line within ∙ ap (λ (l : Signature). take place lines ++ l ∷ []) (get_or_from_slice_get lines place line line at))

  count : length (take place lines) ≡ place
  count = length-take-le place lines (omega (arith, within))

  pub next_none : (found : List Cosigned) → AreFirst text keys (take place lines) found → IsOfNone text keys line → AreFirst text keys (take (place + 1) lines) found
  next_none found are never = subst (λ (ls : List Signature). AreFirst text keys ls found) more_lines (first_none text keys (take place lines) line found are never)

  pub next_some : (found new : List Cosigned) (c : Cosigned) → AreApart keys → AreFirst text keys (take place lines) found → c.line ≡ place → IsOfSome text keys line c.witness c.time → Keeps c found new → AreFirst text keys (take (place + 1) lines) new
  next_some found new c apart are here of (inl old) =
      subst (λ (fs : List Cosigned). AreFirst text keys (take (place + 1) lines) fs) (sym old.1)
      (subst (λ (ls : List Signature). AreFirst text keys ls found) more_lines (first_again text keys (take place lines) line found c.witness c.time apart are of old.0))
  next_some found new c apart are here of (inr fresh) =
      subst (λ (fs : List Cosigned). AreFirst text keys (take (place + 1) lines) fs) (sym fresh.1)
      (subst (λ (ls : List Signature). AreFirst text keys ls (found ++ c ∷ [])) more_lines (first_more text keys (take place lines) line found c apart are (here ∙ sym count) of fresh.0))

-- what the line at a place is, and what is kept of it
pub next_line : (text : List ℕ) (keys : List Key) (lines : List Signature) (place : ℕ) (found new : List Cosigned) (made : Option Cosigned) → AreApart keys → AreFirst text keys (take place lines) found
    → (line : Signature) × (slice_get lines place ≡ Some line) × MatchOption made (IsOfNone text keys line) (λ c. (c.line ≡ place) × IsOfSome text keys line c.witness c.time)
    → KeepsNew made found new → AreFirst text keys (take (place + 1) lines) new
next_line text keys lines place found new None apart are (line, at, never) same = subst (AreFirst text keys (take (place + 1) lines)) (sym same) (next_none text keys lines place line at found are never)
next_line text keys lines place found new (Some c) apart are (line, at, told) keeps = next_some text keys lines place line at found new c apart are told.0 told.1 keeps

-- no line is read yet
pub first_of_none : (text : List ℕ) (keys : List Key) → AreFirst text keys [] []
first_of_none text keys = record {
  each = λ k x less. absurd (omega (arith, less));
  rising = λ i j x less within. absurd (omega (arith, within));
  apart = λ i j x less within. absurd (omega (arith, within));
  first = λ k x less. absurd (omega (arith, less));
  all = λ c is. absurd (omega (arith, slice_get_within [] c.line is.0 is.1));
}
