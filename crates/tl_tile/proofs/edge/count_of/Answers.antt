use Rattle.std.proofs.Common.{arith}
use Rattle.tl_tile.proofs.Below.{count_below-none, count_below-more}
use Rattle.tl_tile.proofs.NeededLemmas.{next_count}
use Rattle.tl_tile.proofs.edge.count_of.Goals as goal

pub loop-lower-init : goal.loop-lower-init
loop-lower-init c = record {
  kept = omega (arith, count_below-none c.args.size);
  few = omega arith;
  count = omega arith;
}

pub loop-lower-preserved : goal.loop-lower-preserved
loop-lower-preserved c =
    let at = c.loop-lower.invariant in
    record {
      kept = omega (arith, at.kept, at.count, count_below-more c.args.size c.loop-lower._lower);
      few = omega (arith, at.few);
      count = next_count c.args.size c.loop-lower._lower c.loop-lower.count at.count;
    }
