use Rattle.std.proofs.Common.{◌+◌, ◌*◌}
use Rattle.tl_tile.specs.Inner.TileTree.{IsTreeSoFar}
use Rattle.tl_tile.proofs.tile_reader.fold_tile.fold_tile.Given as goal

abbrev pub invariant-loop-four : goal.invariant-loop-four
invariant-loop-four g l = IsTreeSoFar g.T.TreeHash.digest_of l.text (256 + 4 * l.four) l.hashes.items

abbrev pub invariant-loop-node : goal.invariant-loop-node
invariant-loop-node g l = IsTreeSoFar g.T.TreeHash.digest_of l.text (256 + l.node) l.hashes.items
