-- What is said of each lane of a vector.
use Rattle.std.proofs.Common.{◌≡◌, ℕ, zero, suc, ◌<◌, ◌+◌, ◌-◌, ◌*◌, ◌/◌, ◌%◌, ◌^◌, List, [], ◌∷◌, length, slice_index, slice_set, bit_or, arith, refl}
use Rattle.std.proofs.Math.ListN.{get_or-map}
use Rattle.std.proofs.lemmas.List.{map-set}
use Rattle.std.proofs.lemmas.Simd.{Each1-get_or}
use Rattle.std.specs.Int.{w32, rotate_right}
use Rattle.std.specs.Simd.Lanes.{zip2, Each1}
use Rattle.sha2.specs.Sha256.{add32, small_sigma0, small_sigma1, window_word}
use Rattle.tl_lanes.specs.Inner.Columns.{column}
use Rattle.tl_lanes.specs.Lanes.{lane, lane_at}
use mir.Val.{Fits}

-- what holds of the four numbers below 4 holds of each of them
pub below_four : (Holds : ℕ → Type 0) → Holds 0 → Holds 1 → Holds 2 → Holds 3 → (j : ℕ) → j < 4 → Holds j
below_four Holds at_0 at_1 at_2 at_3 zero below = at_0
below_four Holds at_0 at_1 at_2 at_3 (suc zero) below = at_1
below_four Holds at_0 at_1 at_2 at_3 (suc (suc zero)) below = at_2
below_four Holds at_0 at_1 at_2 at_3 (suc (suc (suc zero))) below = at_3
below_four Holds at_0 at_1 at_2 at_3 (suc (suc (suc (suc more)))) below = absurd (omega (arith, below))

-- a vector is its four lanes, so what holds of four lanes that are written out holds of it
pub four_lanes : (Holds : List ℕ → Type 0) → ((a b c d : ℕ) → Holds (a ∷ b ∷ c ∷ d ∷ [])) → (vector : List ℕ) → length vector ≡ 4 → Holds vector
four_lanes Holds written [] four = absurd (omega (arith, four))
four_lanes Holds written (a ∷ []) four = absurd (omega (arith, four))
four_lanes Holds written (a ∷ b ∷ []) four = absurd (omega (arith, four))
four_lanes Holds written (a ∷ b ∷ c ∷ []) four = absurd (omega (arith, four))
four_lanes Holds written (a ∷ b ∷ c ∷ d ∷ []) four = written a b c d
four_lanes Holds written (a ∷ b ∷ c ∷ d ∷ e ∷ more) four = absurd (omega (arith, four))

-- two shifts of each lane and an or are a rotation
abbrev Rotates : ℕ → List ℕ → Type 0
Rotates k x = (j : ℕ) → j < 4
    → slice_index (zip2 bit_or
    (zip2 (λ x n. x / 2 ^ n) x (k ∷ k ∷ k ∷ k ∷ []))
    (zip2 (λ x n. x * 2 ^ n % 2 ^ 32) x ((32 - k) ∷ (32 - k) ∷ (32 - k) ∷ (32 - k) ∷ []))) j
    ≡ rotate_right w32 (slice_index x j) k

pub shifts_rotate : (k : ℕ) → 0 < k → k < 32 → (x : List ℕ) → length x ≡ 4 → Rotates k x
shifts_rotate k low high =
    let right : k % 32 ≡ k = omega arith in
    let left : (32 - k) % 32 ≡ 32 - k = omega arith in
    four_lanes (Rotates k) (λ a b c d.
    below_four _ (rw (right, left) refl) (rw (right, left) refl) (rw (right, left) refl) (rw (right, left) refl))

-- a shift of each lane
pub shift_lanes : (k : ℕ) (x : List ℕ) → length x ≡ 4 → (j : ℕ) → j < 4
    → slice_index (zip2 (λ x n. x / 2 ^ n) x (k ∷ k ∷ k ∷ k ∷ [])) j ≡ slice_index x j / 2 ^ k
shift_lanes k =
    four_lanes (λ x. (j : ℕ) → j < 4 → slice_index (zip2 (λ x n. x / 2 ^ n) x (k ∷ k ∷ k ∷ k ∷ [])) j ≡ slice_index x j / 2 ^ k)
    (λ a b c d. below_four _ refl refl refl refl)

-- each lane is a word
pub lane_fits : (x : List ℕ) → length x ≡ 4 → Each1 (Fits w32) x → (j : ℕ) → j < 4 → slice_index x j < 2 ^ 32
lane_fits x len fits j h =
    let lane : Fits w32 (slice_index x j) = Each1-get_or (Fits w32) x j 0 (omega arith) fits in
    lane.fits

-- place i of a lane
pub column_at : (w : List (List ℕ)) (i j : ℕ) → slice_index (column j w) i ≡ lane_at w i j
column_at w i j = get_or-map (λ (v : List ℕ). slice_index v j) w i []

-- a lane after a write
pub column_set : (w : List (List ℕ)) (i j : ℕ) (x : List ℕ) → column j (slice_set w i x) ≡ slice_set (column j w) i (slice_index x j)
column_set w i j x = map-set (λ (v : List ℕ). slice_index v j) w i x

-- the next word of a lane
pub window_word_column : (w : List (List ℕ)) (place j : ℕ)
    → window_word (column j w) place ≡ add32 (add32 (add32 (small_sigma1 (lane_at w ((place + 14) % 16) j))
    (lane_at w ((place + 9) % 16) j)) (small_sigma0 (lane_at w ((place + 1) % 16) j))) (lane_at w (place % 16) j)
window_word_column w place j =
    rw (column_at w ((place + 14) % 16) j, column_at w ((place + 9) % 16) j, column_at w ((place + 1) % 16) j, column_at w (place % 16) j) refl

-- word i of lane j of eight vectors
pub lane-at : (x : List (List ℕ)) (j i : ℕ) → i < 8 → slice_index (lane j x) i ≡ lane_at x i j
lane-at x j zero h = refl
lane-at x j (suc zero) h = refl
lane-at x j (suc (suc zero)) h = refl
lane-at x j (suc (suc (suc zero))) h = refl
lane-at x j (suc (suc (suc (suc zero)))) h = refl
lane-at x j (suc (suc (suc (suc (suc zero))))) h = refl
lane-at x j (suc (suc (suc (suc (suc (suc zero)))))) h = refl
lane-at x j (suc (suc (suc (suc (suc (suc (suc zero))))))) h = refl
lane-at x j (suc (suc (suc (suc (suc (suc (suc (suc n)))))))) h = absurd (omega arith)
