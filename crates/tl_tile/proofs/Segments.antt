-- Runs of places, each over the same number of entries, and how they split.
use Rattle.std.proofs.Common.{◌≡◌, ℕ, suc, ◌+◌, ◌-◌, ◌*◌, ◌^◌, ◌<◌, ◌≤◌, inl, inr, List, length, take, drop, sym, ap, ◌∙◌, arith}
use Rattle.std.proofs.Math.Nat.{pow-succ'}
use Rattle.std.proofs.Math.Pow.{pow_mono}
use Rattle.std.proofs.lemmas.Nat.{pow-add, pow_pos}
use Rattle.std.proofs.lemmas.Bool.{cases_lt}
use Rattle.std.proofs.lemmas.List.{length-take-le, length-drop, take-take, drop-drop, drop-take, take_all}
use Rattle.std.specs.Int.{IsPowerOfTwo}
use Rattle.tl_hash.specs.Split.{IsSplit}
use Rattle.tl_hash.proofs.SplitLemmas.{half_of_larger_power}
pub use Rattle.tl_tile.proofs.TileTexts.{scaled_le}
pub use Rattle.tl_tile.proofs.Runs.{IsSplit-scaled}
pub use Rattle.tl_tile.proofs.Levels.{power_of_256}

-- 32 bytes
abbrev pub HasHashLength : List ℕ → Type 0
HasHashLength hash = length hash ≡ 32

-- the entries under this many places from a start on, u under each
abbrev pub segment : ℕ → ℕ → ℕ → List (List ℕ) → List (List ℕ)
segment u start count entries = take (count * u) (drop (start * u) entries)

pub length-segment : (u start count : ℕ) (entries : List (List ℕ)) → (start + count) * u ≤ length entries → length (segment u start count entries) ≡ count * u
length-segment u start count entries within =
    length-take-le (count * u) (drop (start * u) entries) (omega (arith, length-drop (start * u) entries, within))

pub segment-first : (u start k count : ℕ) (entries : List (List ℕ)) → k ≤ count → take (k * u) (segment u start count entries) ≡ segment u start k entries
segment-first u start k count entries less = take-take (k * u) (count * u) (drop (start * u) entries) (scaled_le k count u less)

pub segment-rest : (u start k count : ℕ) (entries : List (List ℕ)) → k ≤ count → drop (k * u) (segment u start count entries) ≡ segment u (start + k) (count - k) entries
segment-rest u start k count entries less =
    let whole : count ≡ k + (count - k) = omega (arith, less) in
    let sum : count * u ≡ k * u + (count - k) * u = ap (λ (x : ℕ). x * u) whole ∙ omega arith in
    let skip : start * u + k * u ≡ (start + k) * u = omega arith in
    ap (λ (x : ℕ). drop (k * u) (take x (drop (start * u) entries))) sum
    ∙ drop-take (k * u) ((count - k) * u) (drop (start * u) entries)
    ∙ ap (take ((count - k) * u)) (drop-drop (k * u) (start * u) entries)
    ∙ ap (λ (x : ℕ). take ((count - k) * u) (drop x entries)) skip

-- a run of runs
pub segment-of_rest : (u start count skip : ℕ) (entries : List (List ℕ)) → segment u start count (drop (skip * u) entries) ≡ segment u (skip + start) count entries
segment-of_rest u start count skip entries =
    let sum : skip * u + start * u ≡ (skip + start) * u = omega arith in
    ap (take (count * u)) (drop-drop (start * u) (skip * u) entries)
    ∙ ap (λ (x : ℕ). take (count * u) (drop x entries)) sum

pub segment-all : (u count : ℕ) (entries : List (List ℕ)) → length entries ≡ count * u → segment u 0 count entries ≡ entries
segment-all u count entries len =
    let none : 0 * u ≡ 0 = omega arith in
    ap (λ (x : ℕ). take (count * u) (drop x entries)) none ∙ take_all (count * u) entries (omega (arith, len))

-- a power of two that is at most another divides it
pub power_divides : (w k : ℕ) → IsPowerOfTwo w → IsPowerOfTwo k → w ≤ k → (j : ℕ) × (k ≡ j * w) × (0 < j)
power_divides w k (a, p) (b, q) less =
    elim (cases_lt b a) as (λ _. (j : ℕ) × (k ≡ j * w) × (0 < j)) [
      | inl below ↦
          let other : 2 ^ suc b ≤ 2 ^ a = pow_mono below in
          absurd (omega (arith, p, q, less, other, pow-succ' 2 b, pow_pos b))
      | inr above ↦
          let sum : b ≡ b - a + a = omega (arith, above) in
          (2 ^ (b - a), q ∙ ap (λ (x : ℕ). 2 ^ x) sum ∙ pow-add 2 (b - a) a ∙ ap (λ (x : ℕ). 2 ^ (b - a) * x) (sym p), pow_pos (b - a))
    ]

-- a power of two below a number is at most its split point
pub power_in_split : (w k n : ℕ) → IsPowerOfTwo w → IsSplit k n → w < n → w ≤ k
power_in_split w k n power s less =
    elim (cases_lt k w) as (λ _. w ≤ k) [
      | inl below ↦ absurd (omega (arith, half_of_larger_power k w s.power power below, s.largest, less))
      | inr above ↦ above
    ]

pub positive_power : (u : ℕ) → IsPowerOfTwo u → 0 < u
positive_power u (j, e) = omega (arith, e, pow_pos j)
