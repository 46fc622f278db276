-- Laws of lists: what is among them, and what holds of all.
use Rattle.std.proofs.Common.{◌≡◌, ◌≢◌, ℕ, zero, suc, ◌+◌, ◌<◌, List, [], ◌∷◌, ◌++◌, Some, ◌⊎◌, inl, inr, refl, sym, ap, subst, ◌∙◌, map, take, drop, length, get_or, slice_get, arith, All}
use Rattle.std.specs.List.{AllZip}
use Rattle.std.proofs.lemmas.List.{map_more, get_or-map, length-map, take-map}
use Rattle.std.proofs.lemmas.List.Elements.{All-push}
use Rattle.std.proofs.lemmas.Option.{slice_get-get_or}
use Rattle.std.proofs.Math.Seq.{drop-cons}
use Rattle.tl_witness.specs.Open.{IsAmong, HasTwice, IsFirstNot}

pub among_at : {A : Type 0} (xs : List A) (i : ℕ) (x : A) → slice_get xs i ≡ Some x → IsAmong x xs
among_at [] i x there = absurd cc
among_at (y ∷ xs) zero x there = let same : y ≡ x = cc in inl same
among_at (y ∷ xs) (suc i) x there = inr (among_at xs i x there)

pub among_none : {A : Type 0} (xs : List A) (x : A) → ((i : ℕ) → slice_get xs i ≢ Some x) → ¬ (IsAmong x xs)
among_none [] x none is = is
among_none (y ∷ xs) x none (inl same) = none 0 (ap (λ (z : _). Some z) same)
among_none (y ∷ xs) x none (inr later) = among_none xs x (λ i. none (suc i)) later

-- what is left if this one is the first
pub left_from : {A : Type 0} (xs : List A) (i : ℕ) (x : A) → i < length xs → x ≡ get_or xs i x → drop i xs ≡ x ∷ drop (i + 1) xs
left_from xs i x lt is =
    let next : suc i ≡ i + 1 = omega arith in
    drop-cons xs i x lt ∙ ap (λ (n : ℕ). get_or xs i x ∷ drop n xs) next ∙ ap (λ (y : _). y ∷ drop (i + 1) xs) (sym is)

-- what holds of the first ones and of the next holds of one more
pub all_more : {X Y : Type 0} (f : X → Y) (P : Y → Type 0) (xs : List X) (i : ℕ) (x : X) → i < length xs → x ≡ get_or xs i x
    → All P (map f (take i xs)) → P (f x) → All P (map f (take (i + 1) xs))
all_more f P xs i x lt is so_far one =
    subst (All P) (sym (map_more f xs i x lt)) (All-push P (map f (take i xs)) (f (get_or xs i x)) so_far (subst (λ (t : _). P (f t)) is one))

-- what fails of one doesn't hold of all
pub all_fails : {X Y : Type 0} (f : X → Y) (P : Y → Type 0) (xs : List X) (i : ℕ) (x : X) → i < length xs → x ≡ get_or xs i x
    → ¬ (P (f x)) → ¬ (All P (map f xs))
all_fails f P xs i x lt is apart each =
    let at : P (get_or (map f xs) i (f x)) = each i (f x) (omega (arith, length-map xs f)) in
    apart (subst P (get_or-map f xs i x (f x) lt ∙ ap f (sym is)) at)

-- the first that fails
pub first_fails : {X Y : Type 0} (f : X → Y) (P : Y → Type 0) (xs : List X) (i : ℕ) (x : X) → i < length xs → x ≡ get_or xs i x
    → All P (map f (take i xs)) → ¬ (P (f x)) → IsFirstNot P (map f xs) i
first_fails f P xs i x lt is so_far apart = record {
  first = f x;
  there = slice_get-get_or (map f xs) i (f x) (omega (arith, length-map xs f)) ∙ ap (λ (t : _). Some t) (get_or-map f xs i x (f x) lt ∙ ap f (sym is));
  is_not = apart;
  before = subst (All P) (sym (take-map f i xs)) so_far;
}

-- what was done, and what comes next, in the whole
pub next_there : {A : Type 0} (done : List A) (x : A) (rest all : List A) → done ++ x ∷ rest ≡ all → slice_get all (length done) ≡ Some x
next_there [] x rest all e = ap (λ (l : List _). slice_get l 0) (sym e)
next_there (d ∷ done) x rest [] e = absurd cc
next_there (d ∷ done) x rest (a ∷ all) e = next_there done x rest all cc

pub done_there : {A : Type 0} (done rest all : List A) → done ++ rest ≡ all → take (length done) all ≡ done
done_there [] rest all e = refl
done_there (d ∷ done) rest [] e = absurd cc
done_there (d ∷ done) rest (a ∷ all) e =
    let same : a ≡ d = cc in
    ap (λ (x : _). x ∷ take (length done) all) same ∙ ap (λ (l : List _). d ∷ l) (done_there done rest all cc)

-- what is among some and more
pub among_append : {A : Type 0} (x : A) (xs ys : List A) → IsAmong x xs → IsAmong x (xs ++ ys)
among_append x [] ys is = absurd is
among_append x (y ∷ xs) ys (inl same) = inl same
among_append x (y ∷ xs) ys (inr later) = inr (among_append x xs ys later)

pub among_last : {A : Type 0} (x : A) (xs ys : List A) → IsAmong x (xs ++ x ∷ ys)
among_last x [] ys = inl refl
among_last x (y ∷ xs) ys = inr (among_last x xs ys)

pub among_or : {A : Type 0} (x y : A) (xs : List A) → IsAmong x (xs ++ y ∷ []) → (y ≡ x) ⊎ IsAmong x xs
among_or x y [] (inl same) = inl same
among_or x y [] (inr none) = absurd none
among_or x y (z ∷ xs) (inl same) = inr (inl same)
among_or x y (z ∷ xs) (inr later) = elim (among_or x y xs later) [ inl same ↦ inl same | inr is ↦ inr (inr is) ]

-- what comes again is there twice
pub comes_again : {A : Type 0} (x : A) (xs ys : List A) → IsAmong x xs → HasTwice (xs ++ x ∷ ys)
comes_again x [] ys is = absurd is
comes_again x (y ∷ xs) ys (inl same) = inl (subst (λ (z : _). IsAmong z (xs ++ x ∷ ys)) (sym same) (among_last x xs ys))
comes_again x (y ∷ xs) ys (inr later) = inr (comes_again x xs ys later)

-- one pair more, position by position
pub zip_more : {A B : Type 0} (R : A → B → Type 0) (xs : List A) (ys : List B) (x : A) (y : B) → AllZip R xs ys → R x y → AllZip R (xs ++ x ∷ []) (ys ++ y ∷ [])
zip_more R [] [] x y each one = (one, tt)
zip_more R [] (z ∷ ys) x y each one = absurd each
zip_more R (w ∷ xs) [] x y each one = absurd each
zip_more R (w ∷ xs) (z ∷ ys) x y each one = (each.0, zip_more R xs ys x y each.1 one)

-- what has a next one isn't empty
pub some_there : {A : Type 0} (done : List A) (x : A) (rest all : List A) → done ++ x ∷ rest ≡ all → 0 < length all
some_there [] x rest all whole = omega (arith, ap length whole)
some_there (d ∷ done) x rest all whole = omega (arith, ap length whole)
