-- An index of origins stays one as a list grows.
use Rattle.std.proofs.Common.{◌≡◌, ◌≢◌, ℕ, zero, suc, ◌<◌, List, [], ◌∷◌, ◌++◌, length, map, Some, None, refl, sym, ap, subst, ◌∙◌, inl, inr, arith, slice_get}
use Rattle.std.specs.Prelude.{bytes_eq, slice_set}
use Rattle.std.specs.Map.{update}
use Rattle.std.proofs.lemmas.List.{map-append, length-map}
use Rattle.std.proofs.lemmas.Option.{slice_get-map, slice_get_within}
use Rattle.std.specs.Option.{option_map}
use Rattle.tl_proof.specs.Acceptance.{Step}
use Rattle.tl_witness.specs.ByOrigin.{Index, Indexes}
use Rattle.tl_witness.specs.Inner.PutsOrigin.{PutsOrigin}
use Rattle.tl_witness.specs.ChainFields.{PutsStep}
use Rattle.tl_witness.specs.Open.{SavedChain, chain_origins, saved_chain}
use Rattle.tl_witness.proofs.ByOriginLaws.{more}
use Rattle.tl_witness.proofs.Moved.{shown_twice}

-- ---- lists

some_one : {A : Type 0} (x y : A) → Some x ≡ Some y → x ≡ y
some_one x y e = cc

pub set_found : {A : Type 0} (xs : List A) (i : ℕ) (x : A) → slice_get xs i ≡ Some x → slice_set xs i x ≡ xs
set_found [] i x there = refl
set_found (z ∷ xs) zero x there = let same : z ≡ x = cc in ap (λ (w : _). w ∷ xs) (sym same)
set_found (z ∷ xs) (suc i) x there = ap (λ (ws : List _). z ∷ ws) (set_found xs i x there)

-- ---- indexes

indexes_more : (index new : Index) (origins : List (List ℕ)) (origin : List ℕ) (place : ℕ) → place ≡ length origins → Indexes index origins → PutsOrigin origin place index new → Indexes new (origins ++ origin ∷ [])
indexes_more index new origins origin place last is puts =
    more index new origins origin is (λ other. puts other ∙ ap (λ (n : ℕ). update bytes_eq index origin (Some n) other) last)

-- a step that is put behind others changes no origin
pub origins_kept : (old : List SavedChain) (place : ℕ) (origin : List ℕ) (before after : List Step) → slice_get old place ≡ Some (saved_chain origin before) → chain_origins (slice_set old place (saved_chain origin after)) ≡ chain_origins old
origins_kept [] place origin before after there = absurd cc
origins_kept (c ∷ old) zero origin before after there = let same : c.origin ≡ origin = ap (λ (c : SavedChain). c.origin) (some_one c (saved_chain origin before) there) in ap (λ (p : List ℕ). p ∷ chain_origins old) (sym same)
origins_kept (c ∷ old) (suc place) origin before after there = ap (λ (os : List (List ℕ)). c.origin ∷ os) (origins_kept old place origin before after there)

pub origins_grown : (old : List SavedChain) (origin : List ℕ) (steps : List Step) → chain_origins (old ++ saved_chain origin steps ∷ []) ≡ chain_origins old ++ origin ∷ []
origins_grown old origin steps = map-append (λ (c : SavedChain). c.origin) old (saved_chain origin steps ∷ [])

-- ---- a list of chains, seen through a view

module _ {A : Type 0} (view : A → SavedChain) (xs : List A) (index : Index) (origin : List ℕ) (is : Indexes index (chain_origins (map view xs))) where
  named_so : map (λ (x : A). (view x).origin) xs ≡ chain_origins (map view xs)
  named_so = shown_twice view (λ (c : SavedChain). c.origin) (λ (x : A). (view x).origin) xs (λ x. refl)

  -- the position that the index gives has this origin
  pub known_there : (place : ℕ) → Some place ≡ index origin → slice_get (map (λ (x : A). (view x).origin) xs) place ≡ Some origin
  known_there place found =
      let there : slice_get (chain_origins (map view xs)) place ≡ Some origin = is.found origin place (sym found) in
      ap (λ (os : List (List ℕ)). slice_get os place) named_so ∙ there

  pub known_within : (place : ℕ) → Some place ≡ index origin → place < length xs
  known_within place found = let within = slice_get_within (map (λ (x : A). (view x).origin) xs) place origin (known_there place found) in omega (arith, within, length-map xs (λ (x : A). (view x).origin))

  -- if the index gives none, there is none
  pub unknown_there : None ≡ index origin → (place : ℕ) → slice_get (map (λ (x : A). (view x).origin) xs) place ≢ Some origin
  unknown_there none place there = is.absent origin place (sym none) (ap (λ (os : List (List ℕ)). slice_get os place) (sym named_so) ∙ there)

-- the index goes on, as a step is put behind others
pub indexed_known : (index : Index) (origin : List ℕ) (step : Step) (old new : List SavedChain) (place : ℕ) → Indexes index (chain_origins old) → Some place ≡ index origin → PutsStep origin step old new → Indexes index (chain_origins new)
indexed_known index origin step old new place is found (inl (at, before, there, now)) =
    subst (Indexes index) (sym (ap chain_origins now ∙ origins_kept old at origin before (before ++ step ∷ []) there)) is
indexed_known index origin step old new place is found (inr (none, now)) =
    absurd (none place (is.found origin place (sym found)))

-- or begins a chain
pub indexed_new : (index next : Index) (origin : List ℕ) (step : Step) (old new : List SavedChain) (place : ℕ) → Indexes index (chain_origins old) → None ≡ index origin → place ≡ length old → PutsOrigin origin place index next → PutsStep origin step old new → Indexes next (chain_origins new)
indexed_new index next origin step old new place is unknown last puts (inl (at, before, there, now)) =
    absurd (is.absent origin at (sym unknown) (slice_get-map (λ (c : SavedChain). c.origin) old at ∙ ap (option_map (λ (c : SavedChain). c.origin)) there))
indexed_new index next origin step old new place is unknown last puts (inr (none, now)) =
    subst (Indexes next) (sym (ap chain_origins now ∙ origins_grown old origin (step ∷ [])))
    (indexes_more index next (chain_origins old) origin place (last ∙ sym (length-map old (λ (c : SavedChain). c.origin))) is puts)
