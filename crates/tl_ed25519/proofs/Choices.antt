-- Branches on a test whose outcome is known.
use Rattle.std.proofs.Common.{◌≡◌, ℕ, Bool, true, false, ◌==◌, if◌then◌else◌, ap, ◌∙◌, sym}
use Rattle.std.proofs.lemmas.Bool.{eq-eqb, ne_eqb}

pub if_true : {A : Type 0} (b t : Bool) (x y : A) → b ≡ t → b ≡ true → (if t then x else y) ≡ x
if_true b t x y e h = ap (λ s. if s then x else y) (sym e ∙ h)

pub if_false : {A : Type 0} (b t : Bool) (x y : A) → b ≡ t → b ≡ false → (if t then x else y) ≡ y
if_false b t x y e h = ap (λ s. if s then x else y) (sym e ∙ h)

pub if_same : {A : Type 0} (m n : ℕ) (x y : A) → m ≡ n → (if m == n then x else y) ≡ x
if_same m n x y e = ap (λ s. if s then x else y) (eq-eqb m n e)

pub if_other : {A : Type 0} (m n : ℕ) (x y : A) → (m ≡ n → ⊥) → (if m == n then x else y) ≡ y
if_other m n x y e = ap (λ s. if s then x else y) (ne_eqb m n e)
