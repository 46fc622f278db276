-- Laws of positions in a book, which is seen through a view of its elements.
use Rattle.std.proofs.Common.{◌≡◌, ◌≢◌, ℕ, zero, suc, ◌+◌, ◌<◌, ◌≤◌, List, [], ◌∷◌, Some, refl, sym, ap, ◌∙◌, map, length, slice_get, slice_index_or, arith, ◌⊎◌, inl, inr}
use Rattle.std.proofs.lemmas.Option.{slice_get-map, slice_get_read, slice_get_within, get_or_from_slice_get}
use Rattle.std.proofs.lemmas.List.{length-map}
use Rattle.std.specs.Option.{option_map}
use Rattle.tl_witness.specs.Witnessed.{Witnessed}
use Rattle.tl_witness.specs.Book.{Placed, IsPlacedIn}

-- what is read at a position shows there
pub shows_at : {A B : Type 0} (f : A → B) (xs : List A) (n i : ℕ) (x : A) (y : B)
    → n ≡ length xs → i < n → x ≡ slice_index_or xs i x → f x ≡ y → slice_get (map f xs) i ≡ Some y
shows_at f xs n i x y whole within read shown =
    slice_get-map f xs i ∙ (ap (option_map f) (slice_get_read xs n i x whole within read) ∙ ap Some shown)

-- what shows at a position is there
pub stands_at : {A B : Type 0} (f : A → B) (xs : List A) (i : ℕ) (y : B)
    → slice_get (map f xs) i ≡ Some y → (x : A) × (slice_get xs i ≡ Some x) × (f x ≡ y)
stands_at f [] i y there = absurd (cc)
stands_at f (x ∷ xs) zero y there = let e : f x ≡ y = cc in (x, refl, e)
stands_at f (x ∷ xs) (suc i) y there = stands_at f xs i y there

-- if nothing below i is y, and the one at i isn't, nothing below i + 1 is y
pub not_below : {A B : Type 0} (f : A → B) (xs : List A) (n i : ℕ) (x : A) (y : B)
    → n ≡ length xs → i < n → x ≡ slice_index_or xs i x → ¬ (f x ≡ y)
    → ((j : ℕ) → j < i → slice_get (map f xs) j ≢ Some y) → (j : ℕ) → j < i + 1 → slice_get (map f xs) j ≢ Some y
not_below f xs n i x y whole within read differs below j less there =
    elim (at_most j i (omega arith)) [
      | inl lower ↦ below j lower there
      | inr here ↦
          let at : slice_get (map f xs) i ≡ Some (f x) = shows_at f xs n i x (f x) whole within read refl in
          let e : f x ≡ y = cc in
          differs e
    ]
  where
    at_most : (j i : ℕ) → j ≤ i → (j < i) ⊎ (j ≡ i)
    at_most j i less = grind arith

-- if no position below the end shows y, none does
pub nowhere : {A B : Type 0} (f : A → B) (xs : List A) (n i : ℕ) (y : B)
    → n ≡ length xs → n ≤ i → ((j : ℕ) → j < i → slice_get (map f xs) j ≢ Some y) → (j : ℕ) → slice_get (map f xs) j ≢ Some y
nowhere f xs n i y whole past below j there =
    let within = slice_get_within (map f xs) j y there in
    let long = length-map xs f in
    below j (omega arith) there

-- no position has an origin that shows nowhere
pub no_place : {A : Type 0} (states : List A) (view : A → Witnessed) (origin_of : A → List ℕ) (origin : List ℕ)
    → ((k : A) → (view k).origin ≡ origin_of k)
    → ((i : ℕ) → slice_get (map origin_of states) i ≢ Some origin) → (placed : Placed) → ¬ (IsPlacedIn (map view states) origin placed)
no_place states view origin_of origin same nowhere placed is =
    let k = stands_at view states placed.place placed.one is.0 in
    let named : origin_of k.0 ≡ origin = sym (same k.0) ∙ (ap (λ (w : Witnessed). w.origin) k.2 ∙ is.1) in
    nowhere placed.place (slice_get-map origin_of states placed.place ∙ (ap (option_map origin_of) k.1 ∙ ap Some named))

-- an origin that shows at a position is found
pub place_at : {A : Type 0} (states : List A) (view : A → Witnessed) (origin_of : A → List ℕ) (i : ℕ) (origin : List ℕ) (k : A)
    → ((k : A) → (view k).origin ≡ origin_of k)
    → slice_get (map origin_of states) i ≡ Some origin → k ≡ slice_index_or states i k
    → IsPlacedIn (map view states) origin (record { place = i; one = view k })
place_at states view origin_of i origin k same shows read =
    let it = stands_at origin_of states i origin shows in
    let here : it.0 ≡ k = sym (get_or_from_slice_get states i it.0 k it.1) ∙ sym read in (
      slice_get-map view states i ∙ (ap (option_map view) it.1 ∙ ap (λ x. Some (view x)) here),
      same k ∙ (ap origin_of (sym here) ∙ it.2),
    )

-- what is read at a position that shows an origin is of it
pub named_at : {A : Type 0} (states : List A) (origin_of : A → List ℕ) (i : ℕ) (origin : List ℕ) (k : A)
    → slice_get (map origin_of states) i ≡ Some origin → k ≡ slice_index_or states i k → origin_of k ≡ origin
named_at states origin_of i origin k shows read =
    let it = stands_at origin_of states i origin shows in
    let here : it.0 ≡ k = sym (get_or_from_slice_get states i it.0 k it.1) ∙ sym read in
    ap origin_of (sym here) ∙ it.2
