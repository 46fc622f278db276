use Rattle.std.proofs.Common.{◌≡◌, ◌+◌, ◌*◌, subst, arith}
use Rattle.tl_tile.specs.Inner.TileTree.{IsTreeSoFar}
use Rattle.tl_tile.proofs.TileTrees.{tree-own, tree-push}
use Rattle.tl_tile.proofs.tile_reader.fold_tile.fold_tile.Goals as goal

pub loop-four-init : goal.loop-four-init
loop-four-init g c = tree-own g.T.TreeHash.digest_of c.args.text.now c.in_ok-hashes.hashes.items c.in_ok-hashes.ensures.many c.in_ok-hashes.ensures.own

pub loop-four-preserved : goal.loop-four-preserved
loop-four-preserved g c = c.in_ok-push_four.ensures c.args.text.now c.loop-four.invariant

pub loop-node-init : goal.loop-node-init
loop-node-init g c =
    let all : 256 + 4 * c.loop-four.four ≡ 256 + 252 = omega arith in
    subst (λ made. IsTreeSoFar g.T.TreeHash.digest_of c.args.text.now made c.loop-four.hashes.items) all c.loop-four.invariant

pub loop-node-preserved : goal.loop-node-preserved
loop-node-preserved g c =
    tree-push g.T.TreeHash.digest_of c.args.text.now c.loop-node.node c.loop-node.hashes.items c.push.new.self.items c.index-left.result.now c.index-right.result.now c.node_hash.result
    (omega arith) c.loop-node.invariant c.index-left.ensures c.index-right.ensures c.node_hash.ensures c.in_ok-push.ensures.items

pub returns : goal.returns
returns g c =
    let all : 256 + c.loop-node.node ≡ 511 = omega arith in
    subst (λ made. IsTreeSoFar g.T.TreeHash.digest_of c.args.text.now made c.loop-node.hashes.items) all c.loop-node.invariant
