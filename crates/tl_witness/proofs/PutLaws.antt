-- A link is appended to those of its origin, or begins a new chain.
use Rattle.std.proofs.Common.{◌≡◌, ◌≢◌, ◌<◌, ℕ, List, [], ◌∷◌, ◌++◌, Some, inl, inr, refl, ap, subst, ◌∙◌, map, length, slice_get, slice_index_or}
use Rattle.std.specs.Prelude.{slice_set}
use Rattle.std.proofs.lemmas.List.{map-set, map-append}
use Rattle.tl_proof.specs.Acceptance.{Step}
use Rattle.tl_witness.specs.Open.{SavedChain, saved_chain}
use Rattle.tl_witness.specs.ChainFields.{PutsStep}
use Rattle.tl_witness.proofs.Moved.{shown_twice}
use Rattle.tl_witness.proofs.PlaceLaws.{shows_at, named_at}

pub same_chain : (o p : List ℕ) (xs ys : List Step) → o ≡ p → xs ≡ ys → saved_chain o xs ≡ saved_chain p ys
same_chain o p xs ys e f = ap (λ (q : List ℕ). saved_chain q xs) e ∙ ap (λ (steps : List Step). saved_chain p steps) f

pub puts_known : {A : Type 0} (view : A → SavedChain) (xs : List A) (place : ℕ) (origin : List ℕ) (step : Step) (old new : A)
    → place < length xs → slice_get (map (λ x. (view x).origin) xs) place ≡ Some origin → old ≡ slice_index_or xs place old
    → (view new).origin ≡ (view old).origin → (view new).steps ≡ (view old).steps ++ step ∷ []
    → PutsStep origin step (map view xs) (map view (slice_set xs place new))
puts_known view xs place origin step old new room shows read same put =
    let named : (view old).origin ≡ origin = named_at xs (λ x. (view x).origin) place origin old shows read in
    let made = same_chain (view new).origin origin (view new).steps ((view old).steps ++ step ∷ []) (same ∙ named) put in
    inl (
      place,
      (view old).steps,
      shows_at view xs (length xs) place old (saved_chain origin (view old).steps) refl room read (ap (λ (o : List ℕ). saved_chain o (view old).steps) named),
      map-set view xs place new ∙ ap (λ (c : SavedChain). slice_set (map view xs) place c) made,
    )

-- a chain of one link
pub one_step : {A B : Type 0} (f : A → B) (empty links : List A) (link : A) → empty ≡ [] → links ≡ empty ++ link ∷ [] → map f links ≡ f link ∷ []
one_step {A} f empty links link none now = ap (map f) now ∙ ap (λ (ls : List A). map f (ls ++ link ∷ [])) none

pub puts_new : {A : Type 0} (view : A → SavedChain) (xs : List A) (origin : List ℕ) (step : Step) (new : A)
    → ((place : ℕ) → slice_get (map (λ x. (view x).origin) xs) place ≢ Some origin) → (view new).origin ≡ origin → (view new).steps ≡ step ∷ []
    → PutsStep origin step (map view xs) (map view (xs ++ new ∷ []))
puts_new view xs origin step new none named one = inr (
  subst (λ (os : List (List ℕ)). (place : ℕ) → slice_get os place ≢ Some origin) (shown_twice view (λ c. c.origin) (λ x. (view x).origin) xs (λ x. refl)) none,
  map-append view xs (new ∷ []) ∙ ap (λ (c : SavedChain). map view xs ++ c ∷ []) (same_chain (view new).origin origin (view new).steps (step ∷ []) named one),
)
