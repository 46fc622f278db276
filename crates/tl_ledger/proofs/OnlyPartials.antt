-- The hashes of the partial tiles need no other tiles.
use Rattle.std.proofs.Common.{◌≡◌, ℕ, zero, suc, ◌+◌, ◌-◌, ◌*◌, ◌/◌, ◌%◌, ◌^◌, ◌<◌, ◌≤◌, List, map, All, Any, sym, ap, subst, ◌∙◌, arith}
use Rattle.std.specs.List.{range_with_len}
use Rattle.std.proofs.Math.Nat.{div-div-eq-div-mul, div-mul-le_self, eq_of_mul-eq-mul_right}
use Rattle.std.proofs.lemmas.List.Elements.{All-nil, All-cons, All-append}
use Rattle.std.proofs.lemmas.Nat.{pow-add, pow_pos, le-div}
use Rattle.tl_store.specs.Stored.{stored_count, stored_index}
use Rattle.tl_store.specs.Reader.{readable_count}
use Rattle.tl_store.proofs.Readable.{index-in_count, count-in_index, is-readable}
use Rattle.tl_tile.specs.declared.resource.Tile.{Tile}
use Rattle.tl_tile.specs.TileText.{level_count}
use Rattle.tl_tile.specs.EdgeNumbers.{level_numbers, numbers_below}
use Rattle.tl_tile.specs.Fetching.{IsOverNumber}
use Rattle.tl_tile.proofs.TileTexts.{scaled_le, tile_height}
use Rattle.tl_tile.proofs.Levels.{base, wide_of, base_parts, level_parts}

-- ---- the numbers

pub all_mapped : (P : ℕ → Type 0) (g : ℕ → ℕ) (a n : ℕ) → ((p : ℕ) → a ≤ p → p < a + n → P (g p)) → All P (map g (range_with_len a n))
all_mapped P g a zero f = All-nil P
all_mapped P g a (suc n) f =
    All-cons P (g a) (map g (range_with_len (a + 1) n)) (f a (omega arith) (omega arith)) (all_mapped P g (a + 1) n (λ p low high. f p (omega (arith, low)) (omega (arith, high))))

-- what holds of the stored index of each hash of the partial tiles
pub all_numbers : (P : ℕ → Type 0) (size k : ℕ) → ((level place : ℕ) → level < k → base size level ≤ place → place < level_count size level → P (stored_index (8 * level) place)) → All P (numbers_below size k)
unfolding numbers_below
all_numbers P size zero f = All-nil P
all_numbers P size (suc level) f =
    All-append P (level_numbers size level) (numbers_below size level)
    (all_mapped P (λ place. stored_index (8 * level) place) (base size level) (wide_of size level) (λ p low high. f level p (omega arith) low (omega (arith, high, base_parts size level))))
    (all_numbers P size level (λ l p less. f l p (omega (arith, less))))

pub none_of : (P : ℕ → Type 0) (xs : List ℕ) → All (λ x. P x → ⊥) xs → Any P xs → ⊥
none_of P xs all (i, x, less, at, p) = all i x less (subst P (sym at) p)

within_size : (size level place : ℕ) → place < level_count size level → (place + 1) * 2 ^ (8 * level) ≤ size
within_size size level place less =
    let m = scaled_le (place + 1) (level_count size level) (256 ^ level) (omega (arith, less)) in
    let e : (place + 1) * 2 ^ (8 * level) ≡ (place + 1) * 256 ^ level = ap (λ (x : ℕ). (place + 1) * x) (tile_height level) in
    omega (arith, m, e, level_parts size level)

-- each is in range
pub number_in_range : (size level place : ℕ) → size < 2 ^ 32 → place < level_count size level → readable_count size ≤ stored_index (8 * level) place → ⊥
number_in_range size level place small less above =
    omega (arith, above, is-readable size (8 * level) place (omega (arith, small)) (within_size size level place less))

-- ---- one number, one subtree

same_place : (u p q : ℕ) → 0 < u → (p + 1) * u ≡ (q + 1) * u → p ≡ q
same_place u p q some same = let next : p + 1 ≡ q + 1 = eq_of_mul-eq-mul_right u some (p + 1) (q + 1) same in omega (arith, next)

same_subtree : (l p m q : ℕ) → stored_index l p ≡ stored_index m q → (l ≡ m) × (p ≡ q)
unfolding stored_index
same_subtree l p m q same =
    let e : ℕ = (p + 1) * 2 ^ l in
    let f : ℕ = (q + 1) * 2 ^ m in
    let first : f ≤ e = count-in_index e m q (omega (arith, same, index-in_count e l p (omega arith))) in
    let second : e ≤ f = count-in_index f l p (omega (arith, same, index-in_count f m q (omega arith))) in
    let ends : e ≡ f = omega (arith, first, second) in
    let counts : stored_count (e - 1) ≡ stored_count (f - 1) = ap (λ (x : ℕ). stored_count (x - 1)) ends in
    let level : l ≡ m = omega (arith, same, counts) in
    let places : (p + 1) * 2 ^ l ≡ (q + 1) * 2 ^ l = ends ∙ ap (λ (x : ℕ). (q + 1) * 2 ^ x) (sym level) in
    (level, same_place (2 ^ l) p q (pow_pos l) places)

-- ---- which tiles they need

div_le : (a b u : ℕ) → 0 < u → a ≤ b → a / u ≤ b / u
div_le a b u some less = le-div (a / u) b u some (omega (arith, div-mul-le_self a u, less))

power_256 : (k : ℕ) → 0 < 256 ^ k
power_256 k = omega (arith, pow_pos (8 * k), tile_height k)

-- this many levels above the position of a partial tile there is no hash
above_none : (size level place up : ℕ) → base size level ≤ place → level_count size (level + up + 1) ≤ place / 256 ^ (up + 1)
above_none size level place up low =
    let u : ℕ = 256 ^ up in
    let one : up + 1 ≡ 1 + up = omega arith in
    let turned : 256 ^ (up + 1) ≡ 256 * u = ap (λ (x : ℕ). 256 ^ x) one ∙ pow-add 256 1 up in
    let sum : level + up + 1 ≡ level + (up + 1) = omega arith in
    let all : 256 ^ (level + up + 1) ≡ 256 ^ level * (256 * u) = ap (λ (x : ℕ). 256 ^ x) sum ∙ pow-add 256 level (up + 1) ∙ ap (λ (x : ℕ). 256 ^ level * x) turned in
    let count : level_count size (level + up + 1) ≡ level_count size level / 256 / u =
    ap (λ (x : ℕ). size / x) all ∙ sym (div-div-eq-div-mul size (256 ^ level) (256 * u)) ∙ sym (div-div-eq-div-mul (level_count size level) 256 u) in
    let there : place / 256 ^ (up + 1) ≡ place / 256 / u = ap (λ (x : ℕ). place / x) turned ∙ sym (div-div-eq-div-mul place 256 u) in
    let less : level_count size level / 256 ≤ place / 256 = omega (arith, low) in
    omega (arith, count, there, div_le (level_count size level / 256) (place / 256) u (power_256 up) less)

-- so the hashes of the partial tiles need no full tile
pub no_full_over : (size level place : ℕ) (t : Tile) → base size level ≤ place → t.index < level_count size (t.level + 1) → IsOverNumber (stored_index (8 * level) place) t → ⊥
no_full_over size level place t low below over =
    let s = over.subtree in
    let same = same_subtree s.level s.place (8 * level) place over.number in
    let up : ℕ = over.over.up in
    let is = over.over.tile in
    let here : s.level / 8 ≡ level = omega (arith, same.0) in
    let none : s.level % 8 ≡ 0 = omega (arith, same.0) in
    let start : s.place * 2 ^ (s.level % 8) ≡ place = ap (λ (x : ℕ). s.place * 2 ^ x) none ∙ omega (arith, same.1) in
    let level_is : t.level ≡ level + up = ap (λ (x : Tile). x.level) is ∙ ap (λ (x : ℕ). x + up) here in
    let index_is : t.index ≡ place / 256 ^ (up + 1) = ap (λ (x : Tile). x.index) is ∙ ap (λ (x : ℕ). x / 256 ^ (up + 1)) start in
    let count : level_count size (t.level + 1) ≡ level_count size (level + up + 1) = ap (λ (x : ℕ). level_count size (x + 1)) level_is in
    omega (arith, below, index_is, count, above_none size level place up low)
