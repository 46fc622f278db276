-- The number of first entries that the hashes of a proof are over (RFC 6962, sections 2.1.1 and 2.1.2).
use Rattle.std.specs.Prelude.{ℕ, ◌+◌, ◌==◌, ◌||◌, max, List, [], ◌∷◌, if◌then◌else◌}

-- the inclusion proof of the entry at this index is over all other entries of the first `size`; if the entry is the
-- last, these end before it
abbrev pub inclusion_needs : ℕ → ℕ → ℕ
inclusion_needs size index = if index + 1 == size then index else size

-- the inclusion proofs of the entries at these indexes are over as many as the one that needs most
abbrev pub records_need : ℕ → List ℕ → ℕ
records_need size [] = 0
records_need size (index ∷ indexes) = max (inclusion_needs size index) (records_need size indexes)

-- the consistency proof for the first `old` entries is over the first `size`, or over none if it has no hash: for an
-- old size of 0, or of all entries
abbrev pub consistency_needs : ℕ → ℕ → ℕ
consistency_needs size old = if (old == 0) || (old == size) then 0 else size
