use Rattle.std.proofs.Common.{◌≢◌, ℕ, ◌<◌, [], map, slice_index_or, vec_items}
use Rattle.tl_prove.proofs.proving.place_of.Given as goal

-- none of the entries before this place is it
abbrev pub invariant-loop-place : goal.invariant-loop-place
invariant-loop-place l = (k : ℕ) → k < l.place → slice_index_or (map vec_items l.entries) k [] ≢ l.entry
