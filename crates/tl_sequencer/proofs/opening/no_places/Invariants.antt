use Rattle.std.proofs.Common.{◌≡◌, [], map, vec_items, replicate}
use Rattle.tl_sequencer.proofs.opening.no_places.Given as goal

abbrev pub invariant-loop : goal.invariant-loop
invariant-loop g l = map vec_items l.places.items ≡ replicate l.counter []
