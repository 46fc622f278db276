use Rattle.std.proofs.Common.{arith, refl, ap, length}
use Rattle.tl_tile.specs.RightEdge.{hashes_below, count_below}
use Rattle.tl_tile.proofs.edge.Edge.new.Goals as goal

pub invariant_of-result : goal.invariant_of-result
unfolding count_below
invariant_of-result g c = (ap length c.new.ensures.items, omega arith)

pub returns : goal.returns
unfolding hashes_below
returns g c = (refl, omega arith, c.new.ensures.items)
