use Rattle.tl_tile.proofs.TileTexts.{hash_within, numbers_more}
use Rattle.tl_tile.proofs.tile.numbers_of.Goals as goal

pub stored_index-requires-clause-entries : goal.stored_index-requires-clause-entries
stored_index-requires-clause-entries g c = hash_within c.args.tile.level c.args.tile.index c.loop-i.i c.args.tile.width c.loop-i-test.true c.requires.within

pub loop-i-preserved : goal.loop-i-preserved
loop-i-preserved g c = numbers_more c.args.tile.level c.args.tile.index c.loop-i.i _ _ _ c.loop-i.invariant c.stored_index.ensures.number c.in_ok-push.ensures.items
