use Rattle.std.proofs.Common.{◌≡◌, ◌+◌, ◌*◌, map}
use Rattle.std.specs.List.{range_with_len}
use Rattle.tl_store.specs.Stored.{stored_index}
use Rattle.tl_tile.proofs.tile.numbers_of.Given as goal

abbrev pub invariant-loop-i : goal.invariant-loop-i
invariant-loop-i g l = l.numbers.items ≡ map (λ i. stored_index (8 * l.tile.level) (l.tile.index * 256 + i)) (range_with_len 0 l.i)
