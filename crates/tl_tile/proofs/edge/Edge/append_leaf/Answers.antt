use Rattle.std.proofs.Common.{◌++◌, ◌∷◌, [], List, length, take, vec_items, refl, ap, sym, ◌∙◌, arith}
use Rattle.std.proofs.lemmas.Grind.{common_steps}
use Rattle.std.proofs.lemmas.List.{map-append}
use Rattle.tl_hash.specs.Bytes.{Bytes}
use Rattle.tl_tile.specs.RightEdge.{IsEdgeOf}
use Rattle.tl_tile.specs.Fetched.{texts_of}
use Rattle.tl_tile.proofs.Adding.{adds-one}
use Rattle.tl_tile.proofs.FillSteps.{entry_after}
use Rattle.tl_tile.proofs.edge.Edge.append_leaf.Goals as goal

pub fill-requires-clause-counted : goal.fill-requires-clause-counted
fill-requires-clause-counted g c = ap length c.deref.ensures.value ∙ c.self.invariant.0

pub keep-requires-clause-within : goal.keep-requires-clause-within
keep-requires-clause-within g c = omega (arith, c.in_ok-filled.ensures.within, ap length c.deref.ensures.value, ap length c.in_ok-reserve.ensures.items)

pub keep-requires-clause-counted : goal.keep-requires-clause-counted
keep-requires-clause-counted g c = c.in_ok-filled.ensures.counted

pub returns : goal.returns
returns g c entry leaf =
    let H = g.T.TreeHash.digest_of in
    let filled = c.in_ok-filled.filled in
    let before = c.args.tiles.now.items in
    let after = λ (entries : List Bytes) (is : IsEdgeOf c.args.self.now H entries).
    entry_after H c.self.inside.size c.deref.result.now c.args.leaf entries entry (is.0 ∙ sym (ap (λ e. e.size) c.self.view_is)) (c.deref.ensures.value ∙ ap (λ e. e.kept) c.self.view_is ∙ is.2) leaf in
    adds-one H entry c.args.self.now c.keep.new.self (texts_of before) (texts_of c.append.new.self.items) (texts_of filled.tiles.items)
    (omega (arith, c.keep.ensures.size, ap (λ e. e.size) c.self.view_is))
    (omega (arith, c.requires))
    (λ entries is. c.keep.ensures.kept
    ∙ ap (λ (hashes : List Bytes). take filled.left hashes ++ filled.hash ∷ []) (c.in_ok-reserve.ensures.items ∙ sym c.deref.ensures.value)
    ∙ c.in_ok-filled.ensures.kept entries (entry ∷ []) (after entries is))
    (λ entries is. c.in_ok-filled.ensures.tiles refl refl entries (entry ∷ []) (after entries is))
    (ap texts_of c.in_ok-append.ensures.items ∙ map-append (λ t. (t.0, vec_items t.1)) before filled.tiles.items)

pub invariant_of-self : goal.invariant_of-self
invariant_of-self g c = grind (arith, common_steps)

pub invariant_of-self-2 : goal.invariant_of-self-2
invariant_of-self-2 g c = grind (arith, common_steps)

pub invariant_of-self-in_err-append : goal.invariant_of-self-in_err-append
invariant_of-self-in_err-append g c = grind (arith, common_steps)

pub keep-requires-clause-room : goal.keep-requires-clause-room
keep-requires-clause-room g c = grind (arith, common_steps)

pub keep-requires-clause-small : goal.keep-requires-clause-small
keep-requires-clause-small g c = grind (arith, common_steps)
