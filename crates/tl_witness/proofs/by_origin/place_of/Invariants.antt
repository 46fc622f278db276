use Rattle.std.proofs.Common.{ℕ, map, ◌≢◌, slice_get, Some, ◌<◌}
use Rattle.tl_witness.proofs.by_origin.place_of.Given as goal

-- nothing before this position is of the origin
abbrev pub invariant-loop-i : goal.invariant-loop-i
invariant-loop-i g l =
    (j : ℕ) → j < l.i → slice_get (map g.N.OfOrigin.origin_of l.list) j ≢ Some l.origin
