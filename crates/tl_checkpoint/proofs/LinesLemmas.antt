-- One more value of a list, each seen as its text.
use Rattle.std.proofs.Common.{◌≡◌, ℕ, ◌+◌, ◌<◌, List, [], ◌∷◌, ◌++◌, length, get_or, map, take, sym, ap, subst, ◌∙◌, arith, All}
use Rattle.std.proofs.lemmas.List.{map-append, map_more, get_or-map, length-map}
use Rattle.std.proofs.lemmas.List.Elements.{All-push}

-- what holds of the first texts and of the next one holds of one text more
pub all_more : {X : Type 0} (f : X → List ℕ) (P : List ℕ → Type 0) (xs : List X) (i : ℕ) (item : X) → i < length xs → item ≡ get_or xs i item
    → All P (map f (take i xs)) → P (f item) → All P (map f (take (i + 1) xs))
all_more f P xs i item lt is so_far one =
    subst (All P) (sym (map_more f xs i item lt)) (All-push P (map f (take i xs)) (f (get_or xs i item)) so_far (subst (λ (t : _). P (f t)) is one))

-- what fails of one text doesn't hold of all
pub all_fails : {X : Type 0} (f : X → List ℕ) (P : List ℕ → Type 0) (xs : List X) (i : ℕ) (item : X) → i < length xs → item ≡ get_or xs i item
    → (P (f item) → ⊥) → All P (map f xs) → ⊥
all_fails f P xs i item lt is apart each =
    let at : P (get_or (map f xs) i []) = each i [] (omega (arith, length-map xs f)) in
    apart (subst P (get_or-map f xs i item [] lt ∙ ap f (sym is)) at)

-- one value more is one text more
pub one_more : {X : Type 0} (f : X → List ℕ) (xs more : List X) (item : X) (text : List ℕ) → more ≡ xs ++ item ∷ [] → f item ≡ text
    → map f more ≡ map f xs ++ text ∷ []
one_more f xs more item text is one =
    ap (map f) is ∙ map-append f xs (item ∷ []) ∙ ap (λ (t : List ℕ). map f xs ++ t ∷ []) one
