use Rattle.std.proofs.Common.{◌/◌, arith}
use Rattle.std.proofs.lemmas.Grind.{common_steps}
use Rattle.tl_tile.specs.declared.resource.Resource.TheVariants as resource
use Rattle.tl_tile.proofs.NeededLemmas.{full_more}
use Rattle.tl_tile.proofs.listing.push_bundles.Goals as goal

pub loop-index-preserved : goal.loop-index-preserved
loop-index-preserved g c = record {
  low = omega (arith, c.loop-index.invariant.low);
  so_far = full_more resource.Entries (c.args.from / 256) c.loop-index.index c.args.out.now.items c.loop-index.out.items c.push.new.self.items c.loop-index.invariant.low c.loop-index.invariant.so_far c.in_ok-push.ensures.items;
}

pub returns-in_ok-push-2-clause-pieces : goal.returns-in_ok-push-2-clause-pieces
returns-in_ok-push-2-clause-pieces g c = grind (arith, common_steps)
