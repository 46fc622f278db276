-- Lists that have something.
use Rattle.std.proofs.Common.{◌≡◌, zero, suc, inl, inr, ◌⊎◌, List, [], ◌∷◌, refl, arith}
use Rattle.std.specs.Prelude.{Contains, All}

pub none_has : {X : Type 0} (y : X) → Contains [] y → ⊥
none_has y (k, less, at) = omega (arith, less)

pub has_head : {X : Type 0} (x : X) (xs : List X) → Contains (x ∷ xs) x
has_head x xs = (0, omega arith, refl)

pub has_tail : {X : Type 0} (x : X) (xs : List X) (y : X) → Contains xs y → Contains (x ∷ xs) y
has_tail x xs y (k, less, at) = (suc k, omega (arith, less), at)

pub cons_cases : {X : Type 0} (x : X) (xs : List X) (y : X) → Contains (x ∷ xs) y → (x ≡ y) ⊎ Contains xs y
cons_cases x xs y (zero, less, at) = inl at
cons_cases x xs y (suc k, less, at) = inr (k, omega (arith, less), at)

pub one_has : {X : Type 0} (x y : X) → Contains (x ∷ []) y → x ≡ y
one_has x y has = elim (cons_cases x [] y has) as (λ _. x ≡ y) [ inl same ↦ same | inr none ↦ absurd (none_has y none) ]

pub all_is : {X : Type 0} (P Q : X → Type 0) (xs : List X) → ((x : X) → P x → Q x) → All P xs → All Q xs
all_is P Q xs f all k d less = f _ (all k d less)
