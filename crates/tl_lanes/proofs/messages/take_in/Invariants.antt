use Rattle.std.proofs.Common.{◌≡◌, ℕ, ◌<◌, ◌*◌, [], length, slice_index_or}
use Rattle.sha2.specs.Sha256.{word_at}
use Rattle.tl_lanes.specs.Lanes.{lane_at}
use Rattle.tl_lanes.proofs.messages.take_in.Given as goal

abbrev pub invariant-gathered : goal.invariant-gathered
invariant-gathered l = (length l.words ≡ 16) × ((k : ℕ) → k < l.k → (j : ℕ) → j < 4
    → lane_at l.words k j ≡ word_at (slice_index_or l.blocks j []) (4 * k))
