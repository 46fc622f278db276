use Rattle.std.proofs.Common.{◌≡◌, ℕ, ◌+◌, ◌*◌, List, length, subst, sym}
use Rattle.tl_tile.specs.Inner.TileTree.{IsTreeSoFar}
use Rattle.tl_tile.proofs.FourNodes.{AreNodes, four-more}
use Rattle.tl_tile.proofs.tile_reader.fold_tile.push_four.Goals as goal

pub returns : goal.returns
returns g c = λ text tree.
    let H = g.T.TreeHash.digest_of in
    let hashes = c.args.hashes.now.items in
    let nodes = c.hash_four_nodes-nodes.result in
    let many : length nodes ≡ 4 = search in
    let are = subst (λ (x : List (List ℕ)). AreNodes H (8 * c.args.four) x nodes) c.deref.ensures.value c.hash_four_nodes-nodes.ensures in
    subst (λ (x : List (List ℕ)). IsTreeSoFar H text (256 + 4 * (c.args.four + 1)) x)
    (sym c.in_ok-extend_from_slice.ensures.items)
    (four-more H text c.args.four hashes nodes many c.requires.low tree are)
