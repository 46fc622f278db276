-- What is read of a log at an index, from 0, and of a lane's entry by its number, from 0.
use Rattle.std.specs.Prelude.{◌≡◌, ℕ, ◌+◌, ◌-◌, ◌==◌, nat_lt, if◌then◌else◌, length, take, count_by, Option, Some, None, slice_get}
use Rattle.tl_sequencer.specs.Log.{Log}

-- the lane of the entry at an index, if it was taken from one
abbrev pub who_at : {A : Type 0} → Log A → ℕ → Option ℕ
who_at log place = if nat_lt place (length log.base) then None else slice_get log.who (place - length log.base)

-- the number of the first k taken entries that are of the lane
abbrev pub taken_before : {A : Type 0} → Log A → ℕ → ℕ → ℕ
taken_before log lane k = count_by (λ w. w == lane) (take k log.who)

-- the entry at the index is the lane's entry with this number
abbrev pub IsPlaceOf : {A : Type 0} → Log A → ℕ → ℕ → ℕ → Type 0
IsPlaceOf log lane number place =
    (k : ℕ) × (place ≡ length log.base + k) × (slice_get log.who k ≡ Some lane) × (taken_before log lane k ≡ number)
