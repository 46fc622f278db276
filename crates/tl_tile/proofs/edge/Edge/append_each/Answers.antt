use Rattle.std.proofs.Common.{◌∙◌, ◌++◌, List, drop, map, take, take-add, vec_items, sym, ap, subst, length, arith}
use Rattle.std.proofs.lemmas.Grind.{common_steps}
use Rattle.std.proofs.lemmas.List.{map-append, take_rest, length-drop}
use Rattle.tl_hash.specs.Bytes.{Bytes}
use Rattle.tl_tile.specs.Fetched.{texts_of}
use Rattle.tl_tile.specs.Inner.Adds.{Adds}
use Rattle.tl_tile.proofs.Adding.{adds-then}
use Rattle.tl_tile.proofs.edge.Edge.append_each.Goals as goal

pub loop-at-preserved : goal.loop-at-preserved
loop-at-preserved g c =
    let H = g.T.TreeHash.digest_of in
    let entries = c.args.entries.now in
    let at = c.loop-at.at in
    let taken = c.in_ok-at.field-0 in
    let was = c.loop-at.invariant in
    let more = c.in_ok-at.ensures in
    let rest = take_rest entries at in
    let same =
    ap (λ (list : List _). map vec_items (take at entries) ++ map vec_items (take taken list)) rest
    ∙ sym (map-append vec_items (take at entries) (take taken (drop at entries)))
    ∙ ap (map vec_items) (sym (take-add at taken entries)) in
    record {
      within = omega (arith, was.within, more.within, ap length rest, length-drop at entries);
      adds = subst (λ (added : List Bytes). Adds H added c.args.self.now c.append_some.new.self (texts_of c.args.tiles.now.items) (texts_of c.append_some.new.tiles.items)) same (adds-then H _ _ _ _ _ _ _ _ was.adds more.adds);
    }

pub append_some-requires-clause-small : goal.append_some-requires-clause-small
append_some-requires-clause-small g c = grind (arith, common_steps)

pub returns : goal.returns
returns g c = grind (arith, common_steps)
