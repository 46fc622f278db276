use Rattle.std.proofs.Common.{◌≡◌, ℕ, ◌<◌, List, ◌*◌}
use Rattle.sha2.specs.Sha256.{IsRoundsAt, word_at}
use Rattle.tl_lanes.specs.Inner.Columns.{column}
use Rattle.tl_lanes.specs.Lanes.{lane, lane_at}
use Rattle.tl_lanes.proofs.quad.compress4.Given as goal

-- each message whose block lies in its lane of the words has been through 16 rounds a turn
abbrev pub invariant-turns : goal.invariant-turns
invariant-turns l = (j : ℕ) → j < 4 → (b : List ℕ) → ((k : ℕ) → k < 16 → lane_at l.fn.words k j ≡ word_at b (4 * k))
    → IsRoundsAt b (lane j l.state) (column j l.ring) (lane j l.vars) (16 * l.turn)
