use Rattle.std.proofs.Common.{◌∙◌, List, [], ap, subst, sym, arith}
use Rattle.std.proofs.lemmas.Grind.{common_steps}
use Rattle.std.proofs.lemmas.List.{get_or_default}
use Rattle.tl_hash.specs.Bytes.{Bytes}
use Rattle.tl_tile.specs.RightEdge.{IsEdgeOf}
use Rattle.tl_tile.proofs.FourEntries.{four-pushed}
use Rattle.tl_tile.proofs.edge.Edge.push_four.Goals as goal

pub returns-clause-entries : goal.returns-clause-entries
returns-clause-entries g c entries is =
    let H = g.T.TreeHash.digest_of in
    let leaves = c.digest_four-leaves.result in
    let are = c.digest_four-leaves.ensures in
    let sized = is.0 ∙ sym (ap (λ e. e.size) c.self.view_is) in
    let kept = c.in_ok-reserve.ensures.items ∙ ap (λ e. e.kept) c.self.view_is ∙ is.2 in
    let one = c.push_leaf.ensures.entry entries c.args.first.now (get_or_default leaves 0 c.index-leaves-0.result [] (omega arith) ∙ are.a) (sized, is.1, kept) in
    let two = c.push_leaf-2.ensures.entry _ c.args.second.now (get_or_default leaves 1 c.index-leaves-1.result [] (omega arith) ∙ are.b) one in
    let three = c.push_leaf-3.ensures.entry _ c.args.third.now (get_or_default leaves 2 c.index-leaves-2.result [] (omega arith) ∙ are.c) two in
    let four = c.push_leaf-4.ensures.entry _ c.args.fourth.now (get_or_default leaves 3 c.index-leaves-3.result [] (omega arith) ∙ are.d) three in
    subst (λ (all : List Bytes). IsEdgeOf c.push_leaf-4.new.self H all) (four-pushed entries c.args.first.now c.args.second.now c.args.third.now c.args.fourth.now) four

pub push_leaf-requires-2-clause-size : goal.push_leaf-requires-2-clause-size
push_leaf-requires-2-clause-size g c = grind (arith, common_steps)

pub push_leaf-requires-3-clause-size : goal.push_leaf-requires-3-clause-size
push_leaf-requires-3-clause-size g c = grind (arith, common_steps)

pub push_leaf-requires-4-clause-size : goal.push_leaf-requires-4-clause-size
push_leaf-requires-4-clause-size g c = grind (arith, common_steps)

pub push_leaf-requires-clause-size : goal.push_leaf-requires-clause-size
push_leaf-requires-clause-size g c = grind (arith, common_steps)

pub returns-clause-size : goal.returns-clause-size
returns-clause-size g c = grind (arith, common_steps)
