-- A name, by a test of each of its characters.
use Rattle.std.proofs.Common.{ℕ, ◌<◌, Bool, true, false, List, length, refl, All, IsTrue, ◌↔◌}
use Rattle.std.specs.Prelude.{MatchBool}
use Rattle.std.specs.List.{AllWithin, HoldsAt}
use Rattle.std.proofs.lemmas.List.Elements.{All-from_all_within}

-- each element passes a test, or one doesn't
pub told : {X : Type 0} (P : X → Type 0) (xs : List X) (default : X) (r : Bool) → MatchBool r (AllWithin P xs 0 (length xs)) ((k : ℕ) × (k < length xs) × HoldsAt (λ x. P x → ⊥) xs k) → IsTrue r ↔ All P xs
told P xs default true each = (λ _. All-from_all_within P xs each, λ _. refl)
told P xs default false (k, below, fails) = (λ t. absurd cc, λ each. absurd (fails default (each k default below)))
