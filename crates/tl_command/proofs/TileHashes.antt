-- The hashes of a tile, from the entries themselves.
use Rattle.std.proofs.Common.{◌≡◌, ℕ, ◌+◌, ◌*◌, ◌^◌, List, [], ◌∷◌, ◌++◌, map, take, drop, sym, ap, ◌∙◌, arith}
use Rattle.std.specs.List.{flat_map, range_with_len}
use Rattle.std.proofs.lemmas.Grind.{flat_map-append}
use Rattle.std.proofs.Math.Nat.{add-mul}
use Rattle.std.proofs.lemmas.List.{append-nil, drop-drop}
use Rattle.std.proofs.lemmas.List.Folds.{flat_map-map}
use Rattle.std.proofs.lemmas.List.FromFn.{map-range_with_len_more}
use Rattle.tl_tile.specs.TileText.{entries_under}

-- one piece more
pub one_more : (f : ℕ → List ℕ) (n : ℕ) (before after piece : List ℕ) → before ≡ flat_map f (range_with_len 0 n) → piece ≡ f n → after ≡ before ++ piece
    → after ≡ flat_map f (range_with_len 0 (n + 1))
one_more f n before after piece so_far is added =
    let same : ℕ → ℕ = λ i. i in
    let numbers : map same (range_with_len 0 (n + 1)) ≡ map same (range_with_len 0 n) ++ n ∷ [] = map-range_with_len_more same 0 n n (omega arith) in
    let all : flat_map f (range_with_len 0 (n + 1)) ≡ flat_map f (range_with_len 0 n) ++ (f n ++ []) =
    sym (flat_map-map f same (range_with_len 0 (n + 1))) ∙ ap (flat_map f) numbers ∙ flat_map-append f (map same (range_with_len 0 n)) (n ∷ [])
    ∙ ap (λ (t : List ℕ). t ++ (f n ++ [])) (flat_map-map f same (range_with_len 0 n)) in
    added ∙ (λ j. so_far j ++ is j) ∙ ap (λ (t : List ℕ). flat_map f (range_with_len 0 n) ++ t) (sym (append-nil (f n))) ∙ sym all

-- the entries under a hash of a level, cut from those from there on
pub under_cut : (level place count : ℕ) (entries rest first : List (List ℕ)) → count ≡ 256 ^ level → rest ≡ drop (place * count) entries → first ≡ take count rest
    → first ≡ entries_under level place entries
under_cut level place count entries rest first is rest_is first_is =
    first_is ∙ ap (take count) rest_is ∙ ap (λ (n : ℕ). take n (drop (place * n) entries)) is

-- and those after them
pub after_cut : (place next count : ℕ) (entries rest others : List (List ℕ)) → next ≡ place + 1 → rest ≡ drop (place * count) entries → others ≡ drop count rest
    → others ≡ drop (next * count) entries
after_cut place next count entries rest others more rest_is others_is =
    let sum : place * count + count ≡ next * count = omega (arith, add-mul place 1 count, ap (λ (n : ℕ). n * count) more) in
    others_is ∙ ap (drop count) rest_is ∙ drop-drop count (place * count) entries ∙ ap (λ (n : ℕ). drop n entries) sum
