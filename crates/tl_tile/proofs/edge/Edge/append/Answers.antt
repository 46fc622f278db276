use Rattle.std.proofs.Common.{◌++◌, ◌∷◌, ◌+◌, [], List, length, take, refl, ap, sym, ◌∙◌, arith}
use Rattle.std.proofs.lemmas.Grind.{common_steps}
use Rattle.tl_hash.specs.Bytes.{Bytes}
use Rattle.tl_tile.specs.RightEdge.{filled_tiles}
use Rattle.tl_tile.proofs.Adding.{edge-more}
use Rattle.tl_tile.proofs.FillSteps.{entry_after}
use Rattle.tl_tile.proofs.edge.Edge.append.Goals as goal

pub fill-requires-clause-counted : goal.fill-requires-clause-counted
fill-requires-clause-counted g c = ap length c.deref.ensures.value ∙ c.self.invariant.0

pub keep-requires-clause-within : goal.keep-requires-clause-within
keep-requires-clause-within g c = omega (arith, c.in_ok-filled.ensures.within, ap length c.deref.ensures.value, ap length c.in_ok-reserve.ensures.items)

pub keep-requires-clause-counted : goal.keep-requires-clause-counted
keep-requires-clause-counted g c = c.in_ok-filled.ensures.counted

pub returns-clause-entry : goal.returns-clause-entry
returns-clause-entry g c entries is =
    let H = g.T.TreeHash.digest_of in
    let filled = c.in_ok-filled.filled in
    let size = ap (λ e. e.size) c.self.view_is in
    let kept = c.deref.ensures.value ∙ ap (λ e. e.kept) c.self.view_is ∙ is.2 in
    let after = entry_after H c.self.inside.size c.deref.result.now c.leaf_hash-leaf.result entries c.args.entry.now (is.0 ∙ sym size) kept c.leaf_hash-leaf.ensures in
    edge-more H entries (c.args.entry.now ∷ []) c.args.self.now c.keep.new.self (omega (arith, c.keep.ensures.size, size)) (omega (arith, c.requires))
    (c.keep.ensures.kept
    ∙ ap (λ (hashes : List Bytes). take filled.left hashes ++ filled.hash ∷ []) (c.in_ok-reserve.ensures.items ∙ sym c.deref.ensures.value)
    ∙ c.in_ok-filled.ensures.kept entries (c.args.entry.now ∷ []) after)
    is

pub returns-clause-tiles : goal.returns-clause-tiles
returns-clause-tiles g c entries is =
    let kept = c.deref.ensures.value ∙ ap (λ e. e.kept) c.self.view_is ∙ is.2 in
    c.in_ok-filled.ensures.tiles refl refl entries (c.args.entry.now ∷ [])
    (entry_after g.T.TreeHash.digest_of c.self.inside.size c.deref.result.now c.leaf_hash-leaf.result entries c.args.entry.now (is.0 ∙ sym (ap (λ e. e.size) c.self.view_is)) kept c.leaf_hash-leaf.ensures)

pub returns-clause-named : goal.returns-clause-named
returns-clause-named g c = c.in_ok-filled.ensures.named refl refl ∙ ap (λ e. filled_tiles (e.size + 1)) c.self.view_is

pub returns-clause-size : goal.returns-clause-size
returns-clause-size g c = c.keep.ensures.size ∙ ap (λ e. e.size + 1) c.self.view_is

pub invariant_of-self : goal.invariant_of-self
invariant_of-self g c = grind (arith, common_steps)

pub keep-requires-clause-small : goal.keep-requires-clause-small
keep-requires-clause-small g c = grind (arith, common_steps)
