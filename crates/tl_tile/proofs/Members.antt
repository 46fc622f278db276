-- What lists made by map, filter, flat_map and ranges have.
use Rattle.std.proofs.Common.{◌≡◌, ℕ, zero, suc, ◌+◌, ◌<◌, ◌≤◌, inl, inr, ◌⊎◌, Bool, true, false, cond, List, [], ◌∷◌, map, filter, refl, sym, ap, subst, ◌∙◌, arith}
use Rattle.std.specs.Prelude.{Contains}
use Rattle.std.specs.List.{flat_map, range_with_len}
use Rattle.std.proofs.lemmas.Bool.{cases_eq}
use Rattle.std.proofs.lemmas.List.Elements.{Contains-append_left, Contains-append_right, Contains-append_cases}

has_head : {X : Type 0} (x : X) (xs : List X) → Contains (x ∷ xs) x
has_head x xs = (0, omega arith, refl)

has_tail : {X : Type 0} (x : X) (xs : List X) (y : X) → Contains xs y → Contains (x ∷ xs) y
has_tail x xs y (k, less, at) = (suc k, omega (arith, less), at)

cons_cases : {X : Type 0} (x : X) (xs : List X) (y : X) → Contains (x ∷ xs) y → (x ≡ y) ⊎ Contains xs y
cons_cases x xs y (zero, less, at) = inl at
cons_cases x xs y (suc k, less, at) = inr (k, omega (arith, less), at)

none_has : {X : Type 0} (y : X) → Contains [] y → ⊥
none_has y (k, less, at) = omega (arith, less)

pub map_has : {X Y : Type 0} (f : X → Y) (xs : List X) (x : X) → Contains xs x → Contains (map f xs) (f x)
map_has f [] x has = absurd (none_has x has)
map_has f (z ∷ xs) x has =
    elim (cons_cases z xs x has) as (λ _. Contains (map f (z ∷ xs)) (f x)) [
      | inl same ↦ subst (λ (y : _). Contains (map f (z ∷ xs)) (f y)) same (has_head (f z) (map f xs))
      | inr later ↦ has_tail (f z) (map f xs) (f x) (map_has f xs x later)
    ]

pub has_map : {X Y : Type 0} (f : X → Y) (xs : List X) (y : Y) → Contains (map f xs) y → (x : X) × Contains xs x × (f x ≡ y)
has_map f [] y has = absurd (none_has y has)
has_map f (z ∷ xs) y has =
    elim (cons_cases (f z) (map f xs) y has) as (λ _. (x : _) × Contains (z ∷ xs) x × (f x ≡ y)) [
      | inl same ↦ (z, has_head z xs, same)
      | inr later ↦ (let rest = has_map f xs y later in (rest.0, has_tail z xs rest.0 rest.1, rest.2))
    ]

pub range_has : (a n i : ℕ) → a ≤ i → i < a + n → Contains (range_with_len a n) i
range_has a zero i low high = absurd (omega (arith, low, high))
range_has a (suc n) i low high =
    elim (cases_eq a i) as (λ _. Contains (range_with_len a (suc n)) i) [
      | inl same ↦ subst (λ (x : ℕ). Contains (range_with_len a (suc n)) x) same (has_head a (range_with_len (a + 1) n))
      | inr other ↦ has_tail a (range_with_len (a + 1) n) i (range_has (a + 1) n i (omega (arith, low, other)) (omega (arith, high)))
    ]

pub has_range : (a n i : ℕ) → Contains (range_with_len a n) i → (a ≤ i) × (i < a + n)
has_range a zero i has = absurd (none_has i has)
has_range a (suc n) i has =
    elim (cons_cases a (range_with_len (a + 1) n) i has) as (λ _. (a ≤ i) × (i < a + suc n)) [
      | inl same ↦ (omega (arith, same), omega (arith, same))
      | inr later ↦ (let rest = has_range (a + 1) n i later in (omega (arith, rest.0), omega (arith, rest.1)))
    ]

cond_has : {X : Type 0} (test : Bool) (x : X) (xs : List X) (y : X) → Contains (cond test (x ∷ xs) xs) y → ((test ≡ true) × (x ≡ y)) ⊎ Contains xs y
cond_has true x xs y has =
    elim (cons_cases x xs y has) as (λ _. ((true ≡ true) × (x ≡ y)) ⊎ Contains xs y) [ inl same ↦ inl (refl, same) | inr later ↦ inr later ]
cond_has false x xs y has = inr has

pub has_filter : {X : Type 0} (test : X → Bool) (xs : List X) (y : X) → Contains (filter test xs) y → Contains xs y × (test y ≡ true)
has_filter test [] y has = absurd (none_has y has)
has_filter test (x ∷ xs) y has =
    elim (cond_has (test x) x (filter test xs) y has) as (λ _. Contains (x ∷ xs) y × (test y ≡ true)) [
      | inl here ↦ (subst (λ (z : _). Contains (x ∷ xs) z) here.1 (has_head x xs), sym (ap test here.1) ∙ here.0)
      | inr later ↦ (let rest = has_filter test xs y later in (has_tail x xs y rest.0, rest.1))
    ]

has_cond : {X : Type 0} (test : Bool) (x : X) (xs : List X) (y : X) → Contains xs y → Contains (cond test (x ∷ xs) xs) y
has_cond true x xs y has = has_tail x xs y has
has_cond false x xs y has = has

pub filter_has : {X : Type 0} (test : X → Bool) (xs : List X) (y : X) → Contains xs y → test y ≡ true → Contains (filter test xs) y
filter_has test [] y has passes = absurd (none_has y has)
filter_has test (x ∷ xs) y has passes =
    elim (cons_cases x xs y has) as (λ _. Contains (filter test (x ∷ xs)) y) [
      | inl same ↦
          let here : test x ≡ true = ap test same ∙ passes in
          subst (λ (b : Bool). Contains (cond b (x ∷ filter test xs) (filter test xs)) y) (sym here)
          (subst (λ (z : _). Contains (x ∷ filter test xs) z) same (has_head x (filter test xs)))
      | inr later ↦ has_cond (test x) x (filter test xs) y (filter_has test xs y later passes)
    ]

pub flat_map_has : {X Y : Type 0} (f : X → List Y) (xs : List X) (x : X) (y : Y) → Contains xs x → Contains (f x) y → Contains (flat_map f xs) y
flat_map_has f [] x y has inner = absurd (none_has x has)
flat_map_has f (z ∷ xs) x y has inner =
    elim (cons_cases z xs x has) as (λ _. Contains (flat_map f (z ∷ xs)) y) [
      | inl same ↦ Contains-append_left (f z) (flat_map f xs) y (subst (λ (w : _). Contains (f w) y) (sym same) inner)
      | inr later ↦ Contains-append_right (f z) (flat_map f xs) y (flat_map_has f xs x y later inner)
    ]

pub has_flat_map : {X Y : Type 0} (f : X → List Y) (xs : List X) (y : Y) → Contains (flat_map f xs) y → (x : X) × Contains xs x × Contains (f x) y
has_flat_map f [] y has = absurd (none_has y has)
has_flat_map f (z ∷ xs) y has =
    elim (Contains-append_cases (f z) (flat_map f xs) y has) as (λ _. (x : _) × Contains (z ∷ xs) x × Contains (f x) y) [
      | inl here ↦ (z, has_head z xs, here)
      | inr later ↦ (let rest = has_flat_map f xs y later in (rest.0, has_tail z xs rest.0 rest.1, rest.2))
    ]

-- one element or none
pub has_one_or_none : {X : Type 0} (test : Bool) (x y : X) → Contains (cond test [] (x ∷ [])) y → x ≡ y
has_one_or_none true x y has = absurd (none_has y has)
has_one_or_none false x y has =
    elim (cons_cases x [] y has) as (λ _. x ≡ y) [ inl same ↦ same | inr later ↦ absurd (none_has y later) ]
