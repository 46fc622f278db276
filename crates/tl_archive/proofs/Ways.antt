-- What is there, step by step.
use Rattle.std.proofs.Common.{◌≡◌, ℕ, ◌<◌, inl, inr, ◌⊎◌, List, length, get_or, Some, refl, ◌∙◌}
use Rattle.std.specs.Prelude.{Contains}
use Rattle.std.proofs.lemmas.List.{get_or_default}
use Rattle.tl_archive.specs.Shelves.{Item, Held, Between}

pub between_self : (held : Held) (items : List Item) → Between held items held
between_self held items r = inl refl

pub between_wide : (before : Held) (items more : List Item) (after : Held) → ((item : Item) → Contains items item → Contains more item) → Between before items after → Between before more after
between_wide before items more after into is r =
    elim (is r) as (λ _. (after r ≡ before r) ⊎ ((bytes : List ℕ) × (after r ≡ Some bytes) × Contains more (r, bytes))) [
      | inl same ↦ inl same
      | inr own ↦ inr (own.0, own.1, into (r, own.0) own.2)
    ]

pub between_on : (before now after : Held) (items : List Item) → Between before items now → Between now items after → Between before items after
between_on before now after items first then r =
    elim (then r) as (λ _. (after r ≡ before r) ⊎ ((bytes : List ℕ) × (after r ≡ Some bytes) × Contains items (r, bytes))) [
      | inl same ↦
          elim (first r) as (λ _. (after r ≡ before r) ⊎ ((bytes : List ℕ) × (after r ≡ Some bytes) × Contains items (r, bytes))) [
            | inl old ↦ inl (same ∙ old)
            | inr own ↦ inr (own.0, same ∙ own.1, own.2)
          ]
      | inr own ↦ inr own
    ]

pub among : {X : Type 0} (xs : List X) (i : ℕ) (d : X) → i < length xs → Contains xs (get_or xs i d)
among xs i d less = (i, less, get_or_default xs i (get_or xs i d) d less)
