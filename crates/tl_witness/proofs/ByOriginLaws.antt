-- Laws of an index of origins.
use Rattle.std.proofs.Common.{◌≡◌, ◌≢◌, ℕ, zero, suc, ◌+◌, ◌<◌, List, [], ◌∷◌, ◌++◌, Bool, true, false, cond, Option, Some, None, ◌⊎◌, inl, inr, refl, sym, ap, subst, ◌∙◌, map, take, drop, length, get_or, slice_get, arith, All}
use Rattle.std.specs.Prelude.{bytes_eq, is_some}
use Rattle.std.specs.Map.{update}
use Rattle.std.proofs.lemmas.List.{map_more, map-append, take-append-drop, length-map, length-take-le}
use Rattle.std.proofs.lemmas.Slice.Eq.{bytes_eq-Decides}
use Rattle.tl_witness.specs.ByOrigin.{Index, Indexes}
use Rattle.tl_witness.specs.Open.{HasTwice, IsAmong, IsFirstNot}
use Rattle.tl_witness.proofs.ListLaws.{among_at, among_or, comes_again, left_from}

-- of no origins no place is known
pub indexes_none : (index : Index) → ((o : List ℕ) → index o ≡ None) → Indexes index []
indexes_none index none = record {
  found = λ o i there. absurd (let no : None ≡ Some i = sym (none o) ∙ there in cc);
  absent = λ o i out there. absurd cc;
}

at_end : {A : Type 0} (xs : List A) (y : A) → slice_get (xs ++ y ∷ []) (length xs) ≡ Some y
at_end [] y = refl
at_end (x ∷ xs) y = at_end xs y

before_end : {A : Type 0} (xs : List A) (y z : A) (i : ℕ) → slice_get xs i ≡ Some z → slice_get (xs ++ y ∷ []) i ≡ Some z
before_end [] y z i there = absurd cc
before_end (x ∷ xs) y z zero there = there
before_end (x ∷ xs) y z (suc i) there = before_end xs y z i there

end_or_before : {A : Type 0} (xs : List A) (y z : A) (i : ℕ) → slice_get (xs ++ y ∷ []) i ≡ Some z → (slice_get xs i ≡ Some z) ⊎ (y ≡ z)
end_or_before [] y z zero there = inr cc
end_or_before [] y z (suc i) there = absurd cc
end_or_before (x ∷ xs) y z zero there = inl there
end_or_before (x ∷ xs) y z (suc i) there = end_or_before xs y z i there

-- one origin more
pub more : (f g : Index) (origins : List (List ℕ)) (new : List ℕ) → Indexes f origins
    → ((o : List ℕ) → g o ≡ update bytes_eq f new (Some (length origins)) o) → Indexes g (origins ++ new ∷ [])
more f g origins new is puts = record { found = found; absent = absent }
  where
    found : (o : List ℕ) (i : ℕ) → g o ≡ Some i → slice_get (origins ++ new ∷ []) i ≡ Some o
    found o i there = go (bytes_eq new o) refl
      where
        go : (b : Bool) → bytes_eq new o ≡ b → slice_get (origins ++ new ∷ []) i ≡ Some o
        go true e =
            let same : new ≡ o = (bytes_eq-Decides new o).0 e in
            let at : Some (length origins) ≡ Some i = ap (λ (c : Bool). cond c (Some (length origins)) (f o)) (sym e) ∙ (sym (puts o) ∙ there) in
            let i_is : length origins ≡ i = cc in
            subst (λ (n : ℕ). slice_get (origins ++ new ∷ []) n ≡ Some o) i_is (at_end origins new ∙ ap (λ (x : List ℕ). Some x) same)
        go false e = before_end origins new o i (is.found o i (ap (λ (c : Bool). cond c (Some (length origins)) (f o)) (sym e) ∙ (sym (puts o) ∙ there)))

    absent : (o : List ℕ) (i : ℕ) → g o ≡ None → slice_get (origins ++ new ∷ []) i ≢ Some o
    absent o i out there = go (bytes_eq new o) refl
      where
        go : (b : Bool) → bytes_eq new o ≡ b → ⊥
        go true e =
            let no : Some (length origins) ≡ None = ap (λ (c : Bool). cond c (Some (length origins)) (f o)) (sym e) ∙ (sym (puts o) ∙ out) in
            absurd cc
        go false e =
            let before : f o ≡ None = ap (λ (c : Bool). cond c (Some (length origins)) (f o)) (sym e) ∙ (sym (puts o) ∙ out) in
            elim (end_or_before origins new o i there) [
              | inl earlier ↦ is.absent o i before earlier
              | inr same ↦ let no : true ≡ false = sym ((bytes_eq-Decides new o).1 same) ∙ e in absurd cc
            ]

-- what is in a longer list twice
twice_or : {A : Type 0} (xs : List A) (y : A) → HasTwice (xs ++ y ∷ []) → HasTwice xs ⊎ IsAmong y xs
twice_or [] y (inl none) = absurd none
twice_or [] y (inr none) = absurd none
twice_or (x ∷ xs) y (inl again) = elim (among_or x y xs again) [ inl same ↦ inr (inl (sym same)) | inr is ↦ inl (inl is) ]
twice_or (x ∷ xs) y (inr later) = elim (twice_or xs y later) [ inl twice ↦ inl (inr twice) | inr is ↦ inr (inr is) ]

at_some : {A : Type 0} (xs : List A) (x : A) → IsAmong x xs → (i : ℕ) × (slice_get xs i ≡ Some x)
at_some [] x is = absurd is
at_some (y ∷ xs) x (inl same) = (0, ap (λ (z : _). Some z) same)
at_some (y ∷ xs) x (inr later) = let found = at_some xs x later in (suc found.0, found.1)

-- the origins so far are known, and each stands there once
pub record HasIndexed {X : Type 0} (index : Index) (f : X → List ℕ) (xs : List X) (i : ℕ) : Type 0 where
  pub known : Indexes index (map f (take i xs))
  pub once : ¬ (HasTwice (map f (take i xs)))

pub indexed_first : {X : Type 0} (index : Index) (f : X → List ℕ) (xs : List X) → ((o : List ℕ) → index o ≡ None) → HasIndexed index f xs 0
indexed_first index f xs none = record { known = indexes_none index none; once = λ twice. twice }

pub indexed_more : {X : Type 0} (index now : Index) (f : X → List ℕ) (xs : List X) (i : ℕ) (x : X) → i < length xs → x ≡ get_or xs i x
    → HasIndexed index f xs i → index (f x) ≡ None → ((o : List ℕ) → now o ≡ update bytes_eq index (f x) (Some i) o) → HasIndexed now f xs (i + 1)
indexed_more index now f xs i x lt is has none puts =
    let longer : map f (take (i + 1) xs) ≡ map f (take i xs) ++ f x ∷ [] = map_more f xs i x lt ∙ ap (λ (y : _). map f (take i xs) ++ f y ∷ []) (sym is) in
    let count : length (map f (take i xs)) ≡ i = length-map (take i xs) f ∙ length-take-le i xs (omega arith) in
    record {
      known = subst (Indexes now) (sym longer) (more index now (map f (take i xs)) (f x) has.known (λ o. puts o ∙ ap (λ (n : ℕ). update bytes_eq index (f x) (Some n) o) (sym count)));
      once = λ twice.
          elim (twice_or (map f (take i xs)) (f x) (subst HasTwice longer twice)) [
            | inl before ↦ has.once before
            | inr again ↦ let at = at_some (map f (take i xs)) (f x) again in has.known.absent (f x) at.0 none at.1
          ];
    }

-- an origin that is known comes again
pub known_twice : {X : Type 0} (index : Index) (f : X → List ℕ) (xs : List X) (i : ℕ) (x : X) → i < length xs → x ≡ get_or xs i x
    → HasIndexed index f xs i → is_some (index (f x)) ≡ true → HasTwice (map f xs)
known_twice index f xs i x lt is has known = go (index (f x)) refl
  where
    whole : map f xs ≡ map f (take i xs) ++ f x ∷ map f (drop (i + 1) xs)
    whole =
        ap (map f) (sym (take-append-drop i xs))
        ∙ (map-append f (take i xs) (drop i xs) ∙ ap (λ (l : List _). map f (take i xs) ++ map f l) (left_from xs i x lt is))

    go : (o : Option ℕ) → index (f x) ≡ o → HasTwice (map f xs)
    go None e = absurd (let no : false ≡ true = ap is_some (sym e) ∙ known in cc)
    go (Some p) e =
        subst HasTwice (sym whole)
        (comes_again (f x) (map f (take i xs)) (map f (drop (i + 1) xs)) (among_at (map f (take i xs)) p (f x) (has.known.found (f x) p e)))

-- what has a place is among those that are indexed
pub known_among : (index : Index) (origins : List (List ℕ)) (o : List ℕ) → Indexes index origins → index o ≢ None → IsAmong o origins
known_among index origins o is known = go (index o) refl
  where
    go : (p : Option ℕ) → index o ≡ p → IsAmong o origins
    go None e = absurd (known e)
    go (Some i) e = among_at origins i o (is.found o i e)

pub among_known : (index : Index) (origins : List (List ℕ)) (o : List ℕ) → Indexes index origins → IsAmong o origins → index o ≢ None
among_known index origins o is among out = let at = at_some origins o among in is.absent o at.0 out at.1

-- all that have a position are among them, and the first that has none is the first that isn't
pub all_known : (index : Index) (origins os : List (List ℕ)) → Indexes index origins → All (λ o. index o ≢ None) os → All (λ o. IsAmong o origins) os
all_known index origins os is each = λ k d lt. known_among index origins (get_or os k d) is (each k d lt)

pub first_not_known : (index : Index) (origins os : List (List ℕ)) (place : ℕ) → Indexes index origins → IsFirstNot (λ o. index o ≢ None) os place
    → IsFirstNot (λ o. IsAmong o origins) os place
first_not_known index origins os place is first = record {
  first = first.first;
  there = first.there;
  is_not = λ among. first.is_not (among_known index origins first.first is among);
  before = all_known index origins (take place os) is first.before;
}

-- a look-up that finds no position
pub unknown : (found known : Option ℕ) → found ≡ known → is_some found ≡ false → ¬ (known ≢ None)
unknown None known e none is = is (sym e)
unknown (Some i) known e none is = absurd cc

pub is_known : (found known : Option ℕ) → found ≡ known → is_some found ≡ true → known ≢ None
is_known None known e some is = absurd cc
is_known (Some i) known e some is = absurd (let no : Some i ≡ None = e ∙ is in cc)

pub none_known : (known : Option ℕ) → false ≡ is_some known → known ≡ None
none_known None e = refl
none_known (Some i) e = absurd cc
