use Rattle.std.proofs.Common.{arith}
use Rattle.tl_tile.proofs.EdgeFolds.{level_none, level_joined}
use Rattle.tl_tile.proofs.tile_reader.edge_root.add_level.Goals as goal

pub returns-then-tile-eq0 : goal.returns-then-tile-eq0
returns-then-tile-eq0 g c = level_none g.T.TreeHash.digest_of _ c.args.size c.args.level c.args.below c.partial_tile-tile.result c.partial_tile-tile.ensures c.if-tile-eq0.true c.requires.below

pub returns : goal.returns
returns g c = level_joined g.T.TreeHash.digest_of _ c.args.size c.args.level c.requires.edge (omega arith) c.partial_tile-tile.result c.in-Some.text.now c.args.below _
    c.partial_tile-tile.ensures (omega arith) c.in-Some.ensures c.requires.below c.in_ok-hash.ensures
