-- The complete subtree whose hash is stored under a number.
use Rattle.std.proofs.Common.{◌≡◌, ℕ, ◌+◌, ◌-◌, ◌*◌, ◌^◌, ◌<◌, ◌≤◌, inl, inr, subst, sym, arith}
use Rattle.std.specs.Int.RustNames.{count_ones}
use Rattle.std.proofs.lemmas.Bool.{cases_lt}
use Rattle.std.proofs.lemmas.Nat.{zero_from_ones}
use Rattle.tl_store.specs.Stored.{stored_count, stored_index}
use Rattle.tl_store.proofs.Counts.{count_by_bits}
use Rattle.tl_store.proofs.Readable.{count-in_index}

-- a number below the count of stored hashes is small
pub number_small : (index size : ℕ) → size ≤ 2 ^ 62 → index < stored_count size → index < 2 ^ 63 - 1
number_small index size small less =
    elim (cases_lt 0 (count_ones size)) as (λ _. index < 2 ^ 63 - 1) [
      | inl some ↦ omega (arith, count_by_bits size, small, less, some)
      | inr none ↦
          let empty : size ≡ 0 = zero_from_ones size (omega (arith, none)) in
          omega (arith, count_by_bits size, empty, less)
    ]

-- its subtree lies within the entries
pub number_within : (index size level place : ℕ) → stored_index level place ≡ index → index < stored_count size → (place + 1) * 2 ^ level ≤ size
number_within index size level place number less = count-in_index size level place (subst (λ (x : ℕ). x < stored_count size) (sym number) less)
