-- The count of stored hashes by halving.
use Rattle.std.proofs.Common.{◌≡◌, ℕ, zero, suc, ◌+◌, ◌-◌, ◌*◌, ◌/◌, ◌%◌, ◌^◌, ◌≤◌, inl, inr, ◌∷◌, ◌++◌, sum_by, refl, sym, ap, ◌∙◌, arith}
use Rattle.std.specs.Int.RustNames.{count_ones}
use Rattle.std.proofs.lemmas.Bool.{cases_lt}
use Rattle.std.specs.List.{range_with_len}
use Rattle.std.proofs.Math.Nat.{pow-succ', div-div-eq-div-mul}
use Rattle.std.proofs.lemmas.Nat.{div-mul-add, ones_cat}
use Rattle.std.proofs.lemmas.List.Sums.{sum_by-append, sum_by-cons}
use Rattle.tl_hash.proofs.SplitLemmas.{below_pow}
use Rattle.tl_store.specs.Stored.{stored_count}
use Rattle.tl_store.proofs.StoredLemmas.{count-is}

pub range-append : (a n m : ℕ) → range_with_len a (n + m) ≡ range_with_len a n ++ range_with_len (a + n) m
range-append a zero m =
    let count : 0 + m ≡ m = omega arith in
    let start : a ≡ a + 0 = omega arith in
    λ i. range_with_len (start i) (count i)
range-append a (suc n) m =
    let count : suc n + m ≡ suc (n + m) = omega arith in
    let start : a + 1 + n ≡ a + suc n = omega arith in
    ap (range_with_len a) count
    ∙ (λ i. a ∷ range-append (a + 1) n m i)
    ∙ (λ i. a ∷ (range_with_len (a + 1) n ++ range_with_len (start i) m))

-- no subtree above all levels
none_above : (x a n : ℕ) → x ≤ a → sum_by (λ level. x / 2 ^ level) (range_with_len a n) ≡ 0
none_above x a zero low = refl
none_above x a (suc n) low =
    let none : x / 2 ^ a ≡ 0 = ap (λ (y : ℕ). y / 2 ^ a) (omega arith) ∙ div-mul-add 0 (2 ^ a) x (omega (arith, below_pow a, low)) in
    omega (arith, sum_by-cons (λ level. x / 2 ^ level) a (range_with_len (a + 1) n), none, none_above x (a + 1) n (omega (arith, low)))

-- more levels add nothing
count_within : (x n : ℕ) → x ≤ n → sum_by (λ level. x / 2 ^ level) (range_with_len 0 n) ≡ stored_count x
count_within x n more =
    let sum : n ≡ x + (n - x) = omega (arith, more) in
    let start : 0 + x ≡ x = omega arith in
    omega (
      arith,
      ap (λ (y : ℕ). sum_by (λ level. x / 2 ^ level) (range_with_len 0 y)) sum,
      ap (sum_by (λ level. x / 2 ^ level)) (range-append 0 x (n - x)),
      sum_by-append (λ level. x / 2 ^ level) (range_with_len 0 x) (range_with_len (0 + x) (n - x)),
      none_above x (0 + x) (n - x) (omega arith),
      count-is x,
    )

-- one level lower, half as many
shifted : (x a n : ℕ) → sum_by (λ level. x / 2 ^ level) (range_with_len (a + 1) n) ≡ sum_by (λ level. x / 2 / 2 ^ level) (range_with_len a n)
shifted x a zero = refl
shifted x a (suc n) =
    let next : a + 1 ≡ suc a = omega arith in
    let half : x / 2 ^ (a + 1) ≡ x / 2 / 2 ^ a = ap (λ (y : ℕ). x / 2 ^ y) next ∙ ap (λ (y : ℕ). x / y) (pow-succ' 2 a) ∙ sym (div-div-eq-div-mul x 2 (2 ^ a)) in
    omega (
      arith,
      sum_by-cons (λ level. x / 2 ^ level) (a + 1) (range_with_len (a + 1 + 1) n),
      sum_by-cons (λ level. x / 2 / 2 ^ level) a (range_with_len (a + 1) n),
      half,
      shifted x (a + 1) n,
    )

pub count-half : (n : ℕ) → stored_count n ≡ n + stored_count (n / 2)
count-half zero = unfold stored_count in refl
count-half (suc m) =
    let n : ℕ = suc m in
    let one : n / 2 ^ 0 ≡ n = omega arith in
    let start : 0 + 1 ≡ 1 = omega arith in
    omega (
      arith,
      sum_by-cons (λ level. n / 2 ^ level) 0 (range_with_len (0 + 1) m),
      one,
      shifted n 0 m,
      count_within (n / 2) m (omega arith),
      count-is n,
    )

-- by strong induction: a count is at most twice the number
count_small-within : (fuel n : ℕ) → n ≤ fuel → stored_count n ≤ 2 * n
count_small-within zero n small = (let none : n ≡ 0 = omega (arith, small) in rw none (unfold stored_count in omega arith))
count_small-within (suc fuel) zero small = unfold stored_count in omega arith
count_small-within (suc fuel) (suc m) small = omega (arith, count-half (suc m), count_small-within fuel (suc m / 2) (omega (arith, small)))

pub count_small : (n : ℕ) → stored_count n ≤ 2 * n
count_small n = count_small-within n n (omega arith)

-- twice the number, less one for each of its one bits
count_by_bits-within : (fuel n : ℕ) → n ≤ fuel → stored_count n + count_ones n ≡ 2 * n
unfolding count_ones
count_by_bits-within zero n small = (let none : n ≡ 0 = omega (arith, small) in rw none (unfold stored_count in refl))
count_by_bits-within (suc fuel) zero small = unfold stored_count in refl
count_by_bits-within (suc fuel) (suc m) small =
    let n : ℕ = suc m in
    let parts : n ≡ n / 2 * 2 ^ 1 + n % 2 = omega arith in
    let bits : count_ones n ≡ count_ones (n / 2) + count_ones (n % 2) = ap count_ones parts ∙ ones_cat 1 (n / 2) (n % 2) (omega arith) in
    let bit : count_ones (n % 2) ≡ n % 2 =
    elim (cases_lt (n % 2) 1) as (λ _. count_ones (n % 2) ≡ n % 2) [
      | inl less ↦ (let none : n % 2 ≡ 0 = omega (arith, less) in ap count_ones none ∙ sym none)
      | inr more ↦ (let one : n % 2 ≡ 1 = omega (arith, more) in ap count_ones one ∙ sym one)
    ] in
    omega (arith, count-half n, bits, bit, count_by_bits-within fuel (n / 2) (omega (arith, small)))

pub count_by_bits : (n : ℕ) → stored_count n + count_ones n ≡ 2 * n
count_by_bits n = count_by_bits-within n n (omega arith)
