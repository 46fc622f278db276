use Rattle.std.proofs.Common.{◌/◌, ◌%◌, arith}
use Rattle.tl_tile.specs.Fetched.{tiles_of}
use Rattle.tl_tile.specs.Inner.TreeKeys.{trees_in}
use Rattle.tl_tile.proofs.TreeReads.{tree-many, tree-index, tree-subtree}
use Rattle.tl_tile.proofs.tile_reader.checker.Checker.tree_hash.Goals as goal

pub bounds-hashes-number : goal.bounds-hashes-number
bounds-hashes-number g c =
    tree-index (c.args.subtree.level % 8) c.args.count c.args.subtree.place c.in-Some.hashes.now (omega arith) c.requires.count
    (tree-many g.T.TreeHash.digest_of (tiles_of c.args.fetched.now) (trees_in c.args.trees.now.map) (c.args.subtree.level / 8) (c.args.first / 256) c.in-Some.hashes.now c.requires.trees c.in-Some.ensures)

pub returns : goal.returns
returns g c =
    tree-subtree g.T.TreeHash.digest_of (tiles_of c.args.fetched.now) (trees_in c.args.trees.now.map) c.args.self.now.size c.args.subtree c.args.first c.args.count c.in-Some.hashes.now c.index-hashes-number.result
    c.requires.trees c.if-not-is_full.ensures c.requires.first c.requires.count c.in-Some.ensures c.index-hashes-number.is
