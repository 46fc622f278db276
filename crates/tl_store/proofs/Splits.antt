-- The subtree with a number.
use Rattle.std.proofs.Common.{◌≡◌, ℕ, zero, suc, ◌+◌, ◌-◌, ◌*◌, ◌/◌, ◌%◌, ◌^◌, ◌<◌, ◌≤◌, inl, inr, Bool, true, ◌==◌, length, filter, refl, sym, ap, ◌∙◌, arith}
use Rattle.std.specs.Int.RustNames.{count_ones}
use Rattle.std.proofs.Math.Pow.{pow_mono}
use Rattle.tl_store.proofs.Counts.{count_by_bits}
use Rattle.std.specs.List.{range_with_len}
use Rattle.std.proofs.lemmas.Nat.{pow_pos, le-div, mul-le, div-add-mod', ones_cat}
use Rattle.std.proofs.lemmas.Bool.{cases_Bool, cases_eq, cases_lt, eqb-true}
use Rattle.tl_store.specs.Stored.{stored_count, stored_index, levels_ending}
use Rattle.tl_store.proofs.Readable.{stored_count-mono}
use Rattle.tl_store.proofs.StoredLemmas.{count_step, divides_lower}

-- a test that fails from k on keeps fewer
pub kept_below : (p : ℕ → Bool) (k a n : ℕ) → ((j : ℕ) → k ≤ j → p j ≡ true → ⊥) → length (filter p (range_with_len a n)) ≤ k - a
kept_below p k a zero fails = omega arith
kept_below p k a (suc n) fails =
    elim (cases_Bool (p a)) as (λ _. length (filter p (range_with_len a (suc n))) ≤ k - a) [
      | inl holds ↦
          elim (cases_lt a k) as (λ _. length (filter p (range_with_len a (suc n))) ≤ k - a) [
            | inl less ↦ rw holds (omega (arith, kept_below p k (a + 1) n fails, less))
            | inr more ↦ absurd (fails a more holds)
          ]
      | inr not_held ↦ rw not_held (omega (arith, kept_below p k (a + 1) n fails))
    ]

-- a level among those that end with an entry
ends_there : (s level : ℕ) → level < length (levels_ending s) → s % 2 ^ level ≡ 0
unfolding levels_ending
ends_there s level among =
    elim (cases_eq (s % 2 ^ level) 0) as (λ _. s % 2 ^ level ≡ 0) [
      | inl divides ↦ divides
      | inr differ ↦
          let few : length (filter (λ x. s % 2 ^ x == 0) (range_with_len 0 s)) ≤ level - 0 =
          kept_below (λ x. s % 2 ^ x == 0) level 0 s (λ j more holds. differ (divides_lower s j level more (eqb-true (s % 2 ^ j) 0 holds))) in
          absurd (omega (arith, few, among))
    ]

-- the number of a subtree, found by the entries before its last one
pub split-is : (n index level place : ℕ) → stored_count n ≤ index → index < stored_count (n + 1) → level ≡ index - stored_count n → place ≡ (n + 1) / 2 ^ level - 1
    → (stored_index level place ≡ index) × ((place + 1) * 2 ^ level ≡ n + 1)
unfolding stored_index
split-is n index level place low high level_is place_is =
    let next : n + 1 ≡ suc n = omega arith in
    let among : level < length (levels_ending (suc n)) = omega (arith, count_step n, high, ap stored_count next, level_is, low) in
    let divides : suc n % 2 ^ level ≡ 0 = ends_there (suc n) level among in
    let parts : suc n / 2 ^ level * 2 ^ level + suc n % 2 ^ level ≡ suc n = div-add-mod' (suc n) (2 ^ level) in
    let quotient : (n + 1) / 2 ^ level ≡ suc n / 2 ^ level = ap (λ (x : ℕ). x / 2 ^ level) next in
    let whole : suc n / 2 ^ level * 2 ^ level ≡ suc n = omega (arith, parts, divides) in
    let some : 0 < suc n / 2 ^ level =
    elim (cases_eq (suc n / 2 ^ level) 0) as (λ _. 0 < suc n / 2 ^ level) [
      | inl none ↦ absurd (let product : suc n / 2 ^ level * 2 ^ level ≡ 0 * 2 ^ level = ap (λ (x : ℕ). x * 2 ^ level) none in omega (arith, whole, product))
      | inr differ ↦ omega (arith, differ)
    ] in
    let end : place + 1 ≡ suc n / 2 ^ level = omega (arith, place_is, quotient, some) in
    let last : (place + 1) * 2 ^ level ≡ n + 1 = ap (λ (x : ℕ). x * 2 ^ level) end ∙ whole ∙ sym next in
    let before : (place + 1) * 2 ^ level - 1 ≡ n = omega (arith, last) in
    (ap (λ (x : ℕ). stored_count x + level) before ∙ omega (arith, level_is, low), last)

one_bit : (count_ones 1 ≡ 1) × (count_ones 0 ≡ 0)
unfolding count_ones
one_bit = (refl, refl)

count_pow : (k : ℕ) → stored_count (2 ^ k) + 1 ≡ 2 * 2 ^ k
count_pow k =
    let sum : 2 ^ k ≡ 1 * 2 ^ k + 0 = omega arith in
    let bits : count_ones (2 ^ k) ≡ count_ones 1 + count_ones 0 = ap count_ones sum ∙ ones_cat k 1 0 (pow_pos k) in
    omega (arith, count_by_bits (2 ^ k), bits, one_bit.0, one_bit.1)

-- how far the search for it goes
pub ends_below : (m index count : ℕ) → count ≡ stored_count m → count ≤ index → index < 2 ^ 63 - 1 → m < 2 ^ 62
ends_below m index count count_is low small =
    elim (cases_lt m (2 ^ 62)) as (λ _. m < 2 ^ 62) [
      | inl below ↦ below
      | inr over ↦ absurd (omega (arith, stored_count-mono (2 ^ 62) m over, count_pow 62, count_is, low, small))
    ]

pub level_small : (n index : ℕ) → stored_count n ≤ index → index < stored_count (n + 1) → n < 2 ^ 62 → index - stored_count n ≤ 62
level_small n index low high small =
    let split = split-is n index (index - stored_count n) ((n + 1) / 2 ^ (index - stored_count n) - 1) low high refl refl in
    elim (cases_lt 62 (index - stored_count n)) as (λ _. index - stored_count n ≤ 62) [
      | inr within ↦ within
      | inl above ↦
          let level : ℕ = index - stored_count n in
          let more : 2 ^ 63 ≤ 2 ^ level = pow_mono above in
          absurd (omega (arith, split.1, more, small))
    ]

-- in the words of the code
pub level_of : (n index count : ℕ) → count ≡ stored_count n → stored_count n ≤ index → index < stored_count (n + 1) → n < 2 ^ 62 → index - count ≤ 62
level_of n index count is low high small = omega (arith, is, level_small n index low high small)

pub power_of : (level : ℕ) → level ≤ 62 → 2 ^ level < 2 ^ 64
power_of level small = (let most : 2 ^ level ≤ 2 ^ 62 = pow_mono small in omega (arith, most))

pub place_there : (n index count power : ℕ) → count ≡ stored_count n → power ≡ 2 ^ (index - count) → stored_count n ≤ index → index < stored_count (n + 1) → 1 ≤ (n + 1) / power
place_there n index count power is power_is low high =
    let level : ℕ = index - count in
    let found = split-is n index level ((n + 1) / 2 ^ level - 1) low high (ap (λ (x : ℕ). index - x) is) refl in
    let one : 1 * 2 ^ level ≤ ((n + 1) / 2 ^ level - 1 + 1) * 2 ^ level = mul-le 1 (2 ^ level) ((n + 1) / 2 ^ level - 1 + 1) (2 ^ level) (omega arith) (omega arith) in
    let whole : 1 ≤ (n + 1) / 2 ^ level = le-div 1 (n + 1) (2 ^ level) (pow_pos level) (omega (arith, one, found.1)) in
    omega (arith, whole, ap (λ (x : ℕ). (n + 1) / x) power_is)

pub index_there : (n index count power : ℕ) → count ≡ stored_count n → power ≡ 2 ^ (index - count) → stored_count n ≤ index → index < stored_count (n + 1) → stored_index (index - count) ((n + 1) / power - 1) ≡ index
index_there n index count power is power_is low high =
    (split-is n index (index - count) ((n + 1) / power - 1) low high (ap (λ (x : ℕ). index - x) is) (ap (λ (x : ℕ). (n + 1) / x - 1) power_is)).0

pub level_there : (n index count level : ℕ) → count ≡ stored_count n → level ≡ index - count → stored_count n ≤ index → index < stored_count (n + 1) → n < 2 ^ 62 → level ≤ 62
level_there n index count level count_is is low high small = omega (arith, is, level_of n index count count_is low high small)

pub entries_there : (n index count power : ℕ) → count ≡ stored_count n → power ≡ 2 ^ (index - count) → stored_count n ≤ index → index < stored_count (n + 1) → n < 2 ^ 62 → ((n + 1) / power - 1 + 1) * 2 ^ (index - count) ≤ 2 ^ 62
entries_there n index count power is power_is low high small =
    let split = split-is n index (index - count) ((n + 1) / power - 1) low high (ap (λ (x : ℕ). index - x) is) (ap (λ (x : ℕ). (n + 1) / x - 1) power_is) in
    omega (arith, split.1, small)
