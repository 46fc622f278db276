-- Laws of lists: what is among them, and what is at a position.
use Rattle.std.proofs.Common.{◌≡◌, ◌≢◌, ℕ, zero, suc, ◌+◌, ◌<◌, List, [], ◌∷◌, ◌++◌, Some, ◌⊎◌, inl, inr, refl, sym, ap, subst, ◌∙◌, map, take, length, slice_get, slice_index_or}
use Rattle.std.specs.Option.{option_map}
use Rattle.std.proofs.lemmas.List.{map_more}
use Rattle.std.proofs.lemmas.Option.{slice_get-map, slice_get_read, get_or_from_slice_get}
use Rattle.tl_logs.specs.LogsFile.{IsAmong, HasTwice}

-- ---- what is among others

pub among_at : {A : Type 0} (xs : List A) (i : ℕ) (x : A) → slice_get xs i ≡ Some x → IsAmong x xs
among_at [] i x there = absurd cc
among_at (y ∷ xs) zero x there = let same : y ≡ x = cc in inl same
among_at (y ∷ xs) (suc i) x there = inr (among_at xs i x there)

pub among_none : {A : Type 0} (xs : List A) (x : A) → ((i : ℕ) → slice_get xs i ≢ Some x) → ¬ (IsAmong x xs)
among_none [] x none is = is
among_none (y ∷ xs) x none (inl same) = none 0 (ap (λ (z : _). Some z) same)
among_none (y ∷ xs) x none (inr later) = among_none xs x (λ i. none (suc i)) later

pub among_append : {A : Type 0} (x : A) (xs ys : List A) → IsAmong x xs → IsAmong x (xs ++ ys)
among_append x [] ys is = absurd is
among_append x (y ∷ xs) ys (inl same) = inl same
among_append x (y ∷ xs) ys (inr later) = inr (among_append x xs ys later)

pub among_last : {A : Type 0} (x : A) (xs ys : List A) → IsAmong x (xs ++ x ∷ ys)
among_last x [] ys = inl refl
among_last x (y ∷ xs) ys = inr (among_last x xs ys)

pub among_or : {A : Type 0} (x y : A) (xs : List A) → IsAmong x (xs ++ y ∷ []) → (y ≡ x) ⊎ IsAmong x xs
among_or x y [] (inl same) = inl same
among_or x y [] (inr none) = absurd none
among_or x y (z ∷ xs) (inl same) = inr (inl same)
among_or x y (z ∷ xs) (inr later) = elim (among_or x y xs later) [ inl same ↦ inl same | inr is ↦ inr (inr is) ]

-- one more that is new is there once
pub once_more : {A : Type 0} (xs : List A) (x : A) → ¬ (HasTwice xs) → ¬ (IsAmong x xs) → ¬ (HasTwice (xs ++ x ∷ []))
once_more [] x once new (inl none) = none
once_more [] x once new (inr none) = none
once_more (y ∷ xs) x once new (inl again) = elim (among_or y x xs again) [
  | inl same ↦ new (inl (sym same))
  | inr is ↦ once (inl is)
]
once_more (y ∷ xs) x once new (inr twice) = once_more xs x (λ t. once (inr t)) (λ is. new (inr is)) twice

-- ---- what stands at a place

-- what is read at a position shows there
pub shows_at : {A B : Type 0} (f : A → B) (xs : List A) (n i : ℕ) (x : A) (y : B)
    → n ≡ length xs → i < n → x ≡ slice_index_or xs i x → f x ≡ y → slice_get (map f xs) i ≡ Some y
shows_at f xs n i x y whole within read shown =
    slice_get-map f xs i ∙ (ap (option_map f) (slice_get_read xs n i x whole within read) ∙ ap Some shown)

-- what shows at a place stands there
pub stands_at : {A B : Type 0} (f : A → B) (xs : List A) (i : ℕ) (y : B)
    → slice_get (map f xs) i ≡ Some y → (x : A) × (slice_get xs i ≡ Some x) × (f x ≡ y)
stands_at f [] i y there = absurd (cc)
stands_at f (x ∷ xs) zero y there = let e : f x ≡ y = cc in (x, refl, e)
stands_at f (x ∷ xs) (suc i) y there = stands_at f xs i y there

-- what is read at a position shows what the position shows
pub named_at : {A B : Type 0} (f : A → B) (xs : List A) (i : ℕ) (y : B) (x : A) → slice_get (map f xs) i ≡ Some y → x ≡ slice_index_or xs i x → f x ≡ y
named_at f xs i y x shows read =
    let it = stands_at f xs i y shows in
    let here : it.0 ≡ x = sym (get_or_from_slice_get xs i it.0 x it.1) ∙ sym read in
    ap f (sym here) ∙ it.2

-- ---- a search from the front

-- what shows at a place is among them
pub among_here : {A B : Type 0} (f : A → B) (xs : List A) (i : ℕ) (x : A) (y : B) → i < length xs → x ≡ slice_index_or xs i x → f x ≡ y → IsAmong y (map f xs)
among_here f xs i x y within read shown = among_at (map f xs) i y (shows_at f xs (length xs) i x y refl within read shown)

-- if the next one differs, it isn't among one more
pub apart_more : {A B : Type 0} (f : A → B) (xs : List A) (i : ℕ) (x : A) (y : B) → i < length xs → x ≡ slice_index_or xs i x → ¬ (f x ≡ y)
    → ¬ (IsAmong y (map f (take i xs))) → ¬ (IsAmong y (map f (take (i + 1) xs)))
apart_more f xs i x y within read differs apart among =
    let longer : map f (take (i + 1) xs) ≡ map f (take i xs) ++ f x ∷ [] = map_more f xs i x within ∙ ap (λ (z : _). map f (take i xs) ++ f z ∷ []) (sym read) in
    elim (among_or y (f x) (map f (take i xs)) (subst (IsAmong y) longer among)) [ inl same ↦ differs same | inr before ↦ apart before ]

-- ---- what shows of what shows

pub shown_twice : {E W Y : Type 0} (view : E → W) (g : W → Y) (f : E → Y) (xs : List E) → ((x : E) → f x ≡ g (view x)) → map f xs ≡ map g (map view xs)
shown_twice view g f [] same = refl
shown_twice view g f (x ∷ xs) same = ap (λ (t : _). t ∷ map f xs) (same x) ∙ ap (λ (ts : List _). g (view x) ∷ ts) (shown_twice view g f xs same)
