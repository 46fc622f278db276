use Rattle.std.proofs.Common.{◌++◌, List, length, map, vec_items, ◌∙◌, sym, ap, subst, arith}
use Rattle.std.proofs.lemmas.Grind.{common_steps}
use Rattle.std.proofs.lemmas.List.{length-map}
use Rattle.tl_hash.specs.Bytes.{Bytes}
use Rattle.tl_tile.specs.Fetched.{texts_of}
use Rattle.tl_tile.specs.RightEdge.{IsEdgeOf, shown_since}
use Rattle.tl_tile.proofs.edge.Edge.append_all.Goals as goal

pub returns-clause-entries : goal.returns-clause-entries
returns-clause-entries g c before is =
    let grown = c.in_ok-grown.ensures in
    let all : List Bytes = before ++ map vec_items c.args.entries.now in
    subst (λ edge. IsEdgeOf edge g.T.TreeHash.digest_of all) (sym c.grown.view_is)
    (c.in_ok-append_each.ensures.edge before (is.0 ∙ sym grown.size, is.1, grown.kept ∙ is.2))

pub returns-clause-tiles : goal.returns-clause-tiles
returns-clause-tiles g c before is =
    let grown = c.in_ok-grown.ensures in
    let all : List Bytes = before ++ map vec_items c.args.entries.now in
    c.in_ok-append_each.ensures.tiles before (is.0 ∙ sym grown.size, is.1, grown.kept ∙ is.2)
    ∙ ap (λ old. texts_of old ++ shown_since g.T.TreeHash.digest_of (length before) all) c.new-tiles.ensures.items

pub returns-clause-size : goal.returns-clause-size
returns-clause-size g c =
    ap (λ e. e.size) c.grown.view_is ∙ omega (arith, c.in_ok-append_each.ensures.size, c.in_ok-grown.ensures.size, length-map c.args.entries.now vec_items)

pub returns-then-is_empty-clause-entries : goal.returns-then-is_empty-clause-entries
returns-then-is_empty-clause-entries g c = grind (arith, common_steps)

pub returns-then-is_empty-clause-tiles : goal.returns-then-is_empty-clause-tiles
returns-then-is_empty-clause-tiles g c = grind (arith, common_steps)
