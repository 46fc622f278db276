use Rattle.tl_tile.proofs.TileTrees.{push-many, push-own}
use Rattle.tl_tile.proofs.tile_reader.fold_tile.own_hashes.Goals as goal

pub loop-number-preserved : goal.loop-number-preserved
loop-number-preserved g c = record {
  many = push-many c.loop-number.hashes.items c.push.new.self.items c.hash_in.result c.loop-number.number c.loop-number.invariant.many c.in_ok-push.ensures.items;
  own = push-own c.args.text.now c.loop-number.hashes.items c.push.new.self.items c.hash_in.result c.loop-number.number c.loop-number.invariant.many c.in_ok-push.ensures.items c.loop-number.invariant.own c.hash_in.ensures;
}
