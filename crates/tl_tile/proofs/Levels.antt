-- The levels of tiles of a size: how many hashes each has, and what the entries after them are.
use Rattle.std.proofs.Common.{◌≡◌, ℕ, zero, suc, ◌+◌, ◌-◌, ◌*◌, ◌/◌, ◌%◌, ◌^◌, ◌<◌, ◌≤◌, List, length, map, take, get_or, Some, None, refl, sym, ap, subst, ◌∙◌, arith}
use Rattle.std.specs.Int.{IsPowerOfTwo}
use Rattle.std.specs.List.{range_with_len}
use Rattle.std.proofs.Math.Nat.{pow-succ'}
use Rattle.std.proofs.Math.Arith.{mod-mul}
use Rattle.std.proofs.lemmas.Nat.{pow-add, pow_pos, mod_below, div-add-mod'}
use Rattle.std.proofs.lemmas.List.FromFn.{length-map-range_with_len}
use Rattle.tl_hash.specs.Bytes.{Digest}
use Rattle.tl_hash.specs.Tree.{tree_hash}
use Rattle.tl_tile.specs.TileText.{level_count}
use Rattle.tl_tile.specs.Inner.Run.{part, place_hash, Run, IsRun}
use Rattle.tl_tile.specs.Inner.Rest.{IsRest}
use Rattle.tl_tile.specs.Inner.PartialHashes.{hash_at, partial_hashes}
use Rattle.tl_tile.proofs.NeededLemmas.{next_count}
use Rattle.tl_tile.proofs.Runs.{run_of, run-places}

-- 256 ^ level is a power of two
pub power_of_256 : (level : ℕ) → IsPowerOfTwo (256 ^ level)
power_of_256 zero = (0, refl)
power_of_256 (suc level) =
    let below = power_of_256 level in
    (8 + below.0, pow-succ' 256 level ∙ ap (λ (x : ℕ). 256 * x) below.1 ∙ sym (pow-add 2 8 below.0))

pub positive_256 : (level : ℕ) → 0 < 256 ^ level
positive_256 level = let power = power_of_256 level in omega (arith, power.1, pow_pos power.0)

pub next_power : (level : ℕ) → 256 ^ (level + 1) ≡ 256 * 256 ^ level
next_power level = pow-add 256 level 1 ∙ omega arith

-- the first place of a level's partial tile, and its width
abbrev pub base : ℕ → ℕ → ℕ
base size level = level_count size level / 256 * 256

abbrev pub wide_of : ℕ → ℕ → ℕ
wide_of size level = level_count size level % 256

-- a level's entries are full places and a rest
pub level_parts : (size level : ℕ) → level_count size level * 256 ^ level + size % 256 ^ level ≡ size
level_parts size level = div-add-mod' size (256 ^ level)

pub rest_small : (size level : ℕ) → size % 256 ^ level < 256 ^ level
rest_small size level = mod_below size (256 ^ level) (positive_256 level)

pub base_parts : (size level : ℕ) → base size level + wide_of size level ≡ level_count size level
base_parts size level = div-add-mod' (level_count size level) 256

-- one level up
pub above_start : (size level : ℕ) → level_count size (level + 1) * 256 ^ (level + 1) ≡ base size level * 256 ^ level
above_start size level =
    let power = next_power level in
    let count : level_count size (level + 1) ≡ level_count size level / 256 = sym (next_count size level (level_count size level) refl) in
    (λ i. count i * power i) ∙ omega arith

pub above_rest : (size level : ℕ) → size % 256 ^ (level + 1) ≡ wide_of size level * 256 ^ level + size % 256 ^ level
above_rest size level = ap (λ (x : ℕ). size % x) (next_power level) ∙ mod-mul size (omega arith) (positive_256 level)

pub length-partial : (H : Digest) (entries : List (List ℕ)) (level : ℕ) → length (partial_hashes H entries level) ≡ wide_of (length entries) level
length-partial H entries level = length-map-range_with_len (hash_at H entries level) (base (length entries) level) (wide_of (length entries) level)

-- the hashes of a partial tile are a level's places side by side
partial-run : (H : Digest) (entries : List (List ℕ)) (level : ℕ) (hashes : List (List ℕ)) → hashes ≡ partial_hashes H entries level
    → hashes ≡ map (place_hash H entries (256 ^ level)) (range_with_len (base (length entries) level) (length hashes))
partial-run H entries level hashes are =
    let count : length hashes ≡ wide_of (length entries) level = ap length are ∙ length-partial H entries level in
    are ∙ ap (λ (x : ℕ). map (hash_at H entries level) (range_with_len (base (length entries) level) x)) (sym count)

-- what the code's fold says of its result
abbrev pub Folds : (List ℕ → List ℕ) → List (List ℕ) → List ℕ → List ℕ → Type 0
Folds H hashes last result =
    (entries : List (List ℕ)) (run : Run) → IsRun H entries run hashes last → result ≡ tree_hash H (part (run.place * run.width) run.end entries)

-- with a hash below
pub rest-joined : (H : Digest) (entries : List (List ℕ)) (level : ℕ) (hashes : List (List ℕ)) (last result : List ℕ) → hashes ≡ partial_hashes H entries level
    → IsRest H entries level (Some last) → Folds H hashes last result → IsRest H entries (level + 1) (Some result)
rest-joined H entries level hashes last result are (some, last_is) folds =
    let n : ℕ = length entries in
    let u : ℕ = 256 ^ level in
    let count : length hashes ≡ wide_of n level = ap length are ∙ length-partial H entries level in
    let at : base n level + length hashes ≡ level_count n level = omega (arith, base_parts n level, count) in
    let start : (base n level + length hashes) * u ≡ level_count n level * u = ap (λ (x : ℕ). x * u) at in
    let stop : (base n level + length hashes + 1) * u ≡ level_count n level * u + u = ap (λ (x : ℕ). (x + 1) * u) at ∙ omega arith in
    let parts = level_parts n level in
    let whole = folds entries (run_of u (base n level) n) (record {
      power = power_of_256 level;
      within = omega arith;
      some = omega (arith, start, parts, some);
      most = omega (arith, stop, parts, rest_small n level);
      hashes_are = partial-run H entries level hashes are;
      last_is = last_is ∙ ap (λ (x : ℕ). tree_hash H (part x n entries)) (sym start);
    }) in (
      omega (arith, above_rest n level, some),
      whole ∙ ap (λ (x : ℕ). tree_hash H (part x n entries)) (sym (above_start n level)),
    )

-- with none below, and at least one hash in the tile
pub rest-first : (H : Digest) (entries : List (List ℕ)) (level : ℕ) (hashes first : List (List ℕ)) (own result : List ℕ) → hashes ≡ partial_hashes H entries level → 0 < length hashes
    → first ≡ take (length hashes - 1) hashes → own ≡ get_or hashes (length hashes - 1) own
    → IsRest H entries level None → Folds H first own result → IsRest H entries (level + 1) (Some result)
rest-first H entries level hashes first own result are wide first_is own_is none folds =
    let n : ℕ = length entries in
    let u : ℕ = 256 ^ level in
    let k : ℕ = length hashes in
    let count : k ≡ wide_of n level = ap length are ∙ length-partial H entries level in
    let at : base n level + k ≡ level_count n level = omega (arith, base_parts n level, count) in
    let stop : (base n level + k) * u ≡ n = ap (λ (x : ℕ). x * u) at ∙ omega (arith, level_parts n level, none) in
    let run = run-places H entries u (base n level) k hashes own (power_of_256 level) wide (omega arith) (omega (arith, stop)) (partial-run H entries level hashes are) own_is in
    let run_first : IsRun H entries (run_of u (base n level) ((base n level + k) * u)) first own = subst (λ (xs : List (List ℕ)). IsRun H entries (run_of u (base n level) ((base n level + k) * u)) xs own) (sym first_is) run in
    let whole = folds entries (run_of u (base n level) ((base n level + k) * u)) run_first in
    let one : 1 ≤ k = omega (arith, wide) in
    let product : k * u ≡ wide_of n level * u = ap (λ (x : ℕ). x * u) count in
    let less : k ≡ 1 + (k - 1) = omega (arith, wide) in
    let more : k * u ≡ u + (k - 1) * u = ap (λ (x : ℕ). x * u) less ∙ omega arith in
    let from : base n level * u ≡ level_count n (level + 1) * 256 ^ (level + 1) = sym (above_start n level) in (
      omega (arith, above_rest n level, product, more, positive_256 level),
      whole ∙ (λ i. tree_hash H (part (from i) (stop i) entries)),
    )

-- with none below, and no hash in the tile
pub rest-none : (H : Digest) (entries : List (List ℕ)) (level : ℕ) (hashes : List (List ℕ)) → hashes ≡ partial_hashes H entries level → length hashes ≡ 0
    → IsRest H entries level None → IsRest H entries (level + 1) None
rest-none H entries level hashes are empty none =
    let n : ℕ = length entries in
    let count : 0 ≡ wide_of n level = sym empty ∙ ap length are ∙ length-partial H entries level in
    let product : 0 * 256 ^ level ≡ wide_of n level * 256 ^ level = ap (λ (x : ℕ). x * 256 ^ level) count in
    omega (arith, above_rest n level, none, product)
