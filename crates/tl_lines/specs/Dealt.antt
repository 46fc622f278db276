-- Entries that are dealt out to lanes in turn.
use Rattle.std.specs.Prelude.{◌≡◌, ◌<◌, ℕ, ◌+◌, ◌*◌, List, [], length, slice_get, slice_index_or}

-- the entry at index k of lane j is that at index j + k * lanes of all, and the lane has no other; so entry i of all
-- is in lane i modulo the number of lanes, in order
pub record Deals {X : Type 0} (lanes : ℕ) (entries : List X) (lists : List (List X)) : Type 0 where
  pub count : length lists ≡ lanes
  pub each : (j k : ℕ) → j < lanes → slice_get (slice_index_or lists j []) k ≡ slice_get entries (j + k * lanes)
