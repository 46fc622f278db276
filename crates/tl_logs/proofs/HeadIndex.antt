-- The index of heads, when one moves or is added.
use Rattle.std.proofs.Common.{◌≡◌, ℕ, ◌<◌, Bool, true, false, List, [], ◌∷◌, ◌++◌, length, map, Some, refl, sym, ap, subst, ◌∙◌, inl, arith, slice_get, slice_index_or}
use Rattle.std.specs.Prelude.{slice_set}
use Rattle.std.proofs.lemmas.List.{map-append, map-set, length-map}
use Rattle.std.proofs.lemmas.Option.{slice_get_within}
use Rattle.tl_hash.specs.Bytes.{Digest}
use Rattle.tl_proof.specs.Acceptance.{Step}
use Rattle.tl_witness.specs.Chain.{head_after}
use Rattle.tl_witness.proofs.ChainIndexLaws.{set_found}
use Rattle.tl_logs.specs.State.{OriginHead, origin_head}
use Rattle.tl_logs.specs.Inner.ByOrigin.{Index, Indexes, PutsOrigin}
use Rattle.tl_logs.specs.Inner.Heads.{BreaksHead, HasHead, MovesHead, MovesOne, head_origins}
use Rattle.tl_logs.proofs.IndexLaws.{indexes_more}
use Rattle.tl_logs.proofs.ListLaws.{named_at, shown_twice, shows_at}

-- a list of heads, seen through a view
module _ {A : Type 0} (view : A → OriginHead) (xs : List A) (index : Index) (origin : List ℕ) (is : Indexes index (head_origins (map view xs))) where
  origins_seen : map (λ (x : A). (view x).origin) xs ≡ head_origins (map view xs)
  origins_seen = shown_twice view (λ (o : OriginHead). o.origin) (λ (x : A). (view x).origin) xs (λ x. refl)

  pub head_within : (place : ℕ) → Some place ≡ index origin → place < length xs
  head_within place found =
      let within = slice_get_within (head_origins (map view xs)) place origin (is.found origin place (sym found)) in
      omega (arith, within, length-map xs view, length-map (map view xs) (λ (o : OriginHead). o.origin))

  -- the head at the position that the index gives is of this origin
  pub head_named : (place : ℕ) (x : A) → Some place ≡ index origin → x ≡ slice_index_or xs place x → (view x).origin ≡ origin
  head_named place x found read =
      named_at (λ (y : A). (view y).origin) xs place origin x
      (ap (λ (os : List (List ℕ)). slice_get os place) origins_seen ∙ is.found origin place (sym found)) read

  pub head_there : (place : ℕ) (x : A) → Some place ≡ index origin → x ≡ slice_index_or xs place x → HasHead (map view xs) place origin (view x).head
  head_there place x found read =
      shows_at view xs (length xs) place x (origin_head origin (view x).head) refl (head_within place found) read
      (ap (λ (o : List ℕ). origin_head o (view x).head) (head_named place x found read))

  -- it moves
  pub moves_there : (H : Digest) (step : Step) (place : ℕ) (x y : A) → Some place ≡ index origin → x ≡ slice_index_or xs place x → MovesOne H step (view x) (view y) true
      → MovesHead H origin step (map view xs) (map view (slice_set xs place y))
  moves_there H step place x y found read moved = (
    place,
    (view x).head,
    head_there place x found read,
    moved.0,
    map-set view xs place y
        ∙ ap (slice_set (map view xs) place) (moved.1 ∙ ap (λ (o : List ℕ). origin_head o (head_after step)) (head_named place x found read)),
  )

  -- or the link breaks
  pub breaks_there : (H : Digest) (step : Step) (place : ℕ) (x y : A) → Some place ≡ index origin → x ≡ slice_index_or xs place x → MovesOne H step (view x) (view y) false
      → BreaksHead H origin step (map view xs)
  breaks_there H step place x y found read moved = inl (place, (view x).head, head_there place x found read, moved.0)

  -- the origins stay
  pub index_stays : (place : ℕ) (x y : A) → Some place ≡ index origin → x ≡ slice_index_or xs place x → (view y).origin ≡ (view x).origin
      → Indexes index (head_origins (map view (slice_set xs place y)))
  index_stays place x y found read same =
      let named : (view y).origin ≡ origin = same ∙ head_named place x found read in
      let stays : head_origins (map view (slice_set xs place y)) ≡ head_origins (map view xs) =
      ap head_origins (map-set view xs place y)
      ∙ map-set (λ (o : OriginHead). o.origin) (map view xs) place (view y)
      ∙ set_found (head_origins (map view xs)) place (view y).origin (is.found origin place (sym found) ∙ ap (λ (o : List ℕ). Some o) (sym named)) in
      subst (Indexes index) (sym stays) is

  -- one comes
  pub index_grows : (next : Index) (place : ℕ) (y : A) → place ≡ length xs → (view y).origin ≡ origin → PutsOrigin origin place index next
      → Indexes next (head_origins (map view (xs ++ y ∷ [])))
  index_grows next place y last named puts =
      let grown : head_origins (map view (xs ++ y ∷ [])) ≡ head_origins (map view xs) ++ origin ∷ [] =
      ap head_origins (map-append view xs (y ∷ []))
      ∙ map-append (λ (o : OriginHead). o.origin) (map view xs) (view y ∷ [])
      ∙ ap (λ (o : List ℕ). head_origins (map view xs) ++ o ∷ []) named in
      subst (Indexes next) (sym grown)
      (indexes_more index next (head_origins (map view xs)) origin place
      (last ∙ sym (length-map xs view) ∙ sym (length-map (map view xs) (λ (o : OriginHead). o.origin))) is puts)

-- a head that moves or doesn't keeps its origin
pub same_origin : (H : Digest) (step : Step) (old new : OriginHead) (b : Bool) → MovesOne H step old new b → new.origin ≡ old.origin
same_origin H step old new true moved = ap (λ (o : OriginHead). o.origin) moved.1
same_origin H step old new false moved = ap (λ (o : OriginHead). o.origin) moved.1
