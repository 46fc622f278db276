-- Which hashes are stored: those of the complete subtrees over the entries that are there.
use Rattle.std.proofs.Common.{◌≡◌, ℕ, zero, suc, ◌+◌, ◌-◌, ◌*◌, ◌^◌, ◌<◌, ◌≤◌, inl, inr, List, [], length, replicate, refl, ap, arith}
use Rattle.std.proofs.lemmas.Bool.{cases_lt, le-leb, lt-leb}
use Rattle.std.proofs.lemmas.List.{length-replicate}
use Rattle.tl_store.specs.Stored.{stored_count, stored_index}
use Rattle.tl_store.specs.Reader.{readable_count}
use Rattle.tl_store.proofs.StoredLemmas.{count_step, index_is_place}

stored_count-more : (n d : ℕ) → stored_count n ≤ stored_count (n + d)
stored_count-more n zero = (let same : n ≡ n + 0 = omega arith in omega (arith, ap stored_count same))
stored_count-more n (suc d) =
    let same : n + suc d ≡ suc (n + d) = omega arith in
    omega (arith, ap stored_count same, count_step (n + d), stored_count-more n d)

pub stored_count-mono : (n m : ℕ) → n ≤ m → stored_count n ≤ stored_count m
stored_count-mono n m less =
    let sum : m ≡ n + (m - n) = omega (arith, less) in
    omega (arith, ap stored_count sum, stored_count-more n (m - n))

-- a subtree's number is below the count if its entries are there
pub index-in_count : (size level place : ℕ) → (place + 1) * 2 ^ level ≤ size → stored_index level place < stored_count size
index-in_count size level place within =
    let entries : List (List ℕ) = replicate size [] in
    let len : length entries ≡ size = length-replicate size [] in
    let found = index_is_place (λ message. message) entries level place (omega (arith, within, len)) in
    omega (arith, found.0, ap stored_count len)

-- and only there
pub count-in_index : (size level place : ℕ) → stored_index level place < stored_count size → (place + 1) * 2 ^ level ≤ size
unfolding stored_index
count-in_index size level place below =
    elim (cases_lt size ((place + 1) * 2 ^ level)) as (λ _. (place + 1) * 2 ^ level ≤ size) [
      | inr within ↦ within
      | inl past ↦ absurd (omega (arith, below, stored_count-mono size ((place + 1) * 2 ^ level - 1) (omega (arith, past))))
    ]

pub readable-count : (size : ℕ) → size ≤ 2 ^ 62 → readable_count size ≡ stored_count size
readable-count size small = rw (le-leb size (2 ^ 62) small) refl

pub readable-none : (size : ℕ) → 2 ^ 62 < size → readable_count size ≡ 0
readable-none size large = rw (lt-leb size (2 ^ 62) large) (unfold stored_count in refl)

-- which subtrees a reader of this size can read
pub readable-is : (size level place : ℕ) → stored_index level place < readable_count size → (size ≤ 2 ^ 62) × ((place + 1) * 2 ^ level ≤ size)
readable-is size level place below =
    elim (cases_lt (2 ^ 62) size) as (λ _. (size ≤ 2 ^ 62) × ((place + 1) * 2 ^ level ≤ size)) [
      | inl large ↦ absurd (omega (arith, below, readable-none size large))
      | inr small ↦ (small, count-in_index size level place (omega (arith, below, readable-count size small)))
    ]

pub is-readable : (size level place : ℕ) → size ≤ 2 ^ 62 → (place + 1) * 2 ^ level ≤ size → stored_index level place < readable_count size
is-readable size level place small within = omega (arith, readable-count size small, index-in_count size level place within)
