use Rattle.std.proofs.Common.{◌∙◌, [], arith}
use Rattle.std.proofs.lemmas.List.{get_or_default}
use Rattle.tl_tile.proofs.Adding.{adds-then}
use Rattle.tl_tile.proofs.edge.Edge.append_four.Goals as goal

pub returns : goal.returns
returns g c =
    let H = g.T.TreeHash.digest_of in
    let leaves = c.digest_four-leaves.result in
    let are = c.digest_four-leaves.ensures in
    let one = c.in_ok-append_leaf.ensures _ (get_or_default leaves 0 c.index-leaves-0.result [] (omega arith) ∙ are.a) in
    let two = c.in_ok-append_leaf-2.ensures _ (get_or_default leaves 1 c.index-leaves-1.result [] (omega arith) ∙ are.b) in
    let three = c.in_ok-append_leaf-3.ensures _ (get_or_default leaves 2 c.index-leaves-2.result [] (omega arith) ∙ are.c) in
    let four = c.in_ok-append_leaf-4.ensures _ (get_or_default leaves 3 c.index-leaves-3.result [] (omega arith) ∙ are.d) in
    adds-then H _ _ _ _ _ _ _ _ one (adds-then H _ _ _ _ _ _ _ _ two (adds-then H _ _ _ _ _ _ _ _ three four))
