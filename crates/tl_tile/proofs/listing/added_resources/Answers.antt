use Rattle.std.proofs.Common.{arith}
use Rattle.tl_tile.proofs.NeededLemmas.{all_listed, level_more, next_count}
use Rattle.tl_tile.proofs.listing.added_resources.Goals as goal

pub loop-level-preserved : goal.loop-level-preserved
loop-level-preserved g c = record {
  tiles = level_more c.args.from c.args.size c.loop-level.level c.loop-level.low c.loop-level.high c.loop-level.listed.items c.push_tiles.new.out.items c.loop-level.invariant.tiles c.loop-level.invariant.low
      c.loop-level.invariant.high c.in_ok-push_tiles.ensures.pieces;
  low = next_count c.args.from c.loop-level.level c.loop-level.low c.loop-level.invariant.low;
  high = next_count c.args.size c.loop-level.level c.loop-level.high c.loop-level.invariant.high;
  order = omega (arith, c.loop-level.invariant.order);
  less = omega (arith, c.loop-level.invariant.less);
}

pub returns-clause-resources : goal.returns-clause-resources
returns-clause-resources g c = all_listed c.args.from c.args.size c.loop-level.level c.loop-level.listed.items c.push_bundles.new.out.items
    (omega (arith, c.loop-level.auto.level-end, c.loop-level-test.false)) c.loop-level.invariant.tiles c.in_ok-push_bundles.ensures.pieces
