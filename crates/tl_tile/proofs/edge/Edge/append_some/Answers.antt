use Rattle.std.proofs.Common.{◌∷◌, [], ◌∙◌, List, map, vec_items, sym, ap, subst, arith}
use Rattle.std.proofs.lemmas.Grind.{common_steps}
use Rattle.tl_hash.specs.Bytes.{Bytes}
use Rattle.tl_tile.specs.Fetched.{texts_of}
use Rattle.tl_tile.specs.Inner.Adds.{Adds}
use Rattle.tl_tile.proofs.FourEntries.{four-front}
use Rattle.tl_tile.proofs.edge.Edge.append_some.Goals as goal

pub returns-in-len4-up-clause-adds : goal.returns-in-len4-up-clause-adds
returns-in-len4-up-clause-adds g c =
    let front = four-front c.args.entries.now _ _ _ _ c.in-len4-up.len_at_least c.first-item.is c.second-item.is c.third-item.is c.fourth-item.is in
    subst
    (λ (added : List Bytes). Adds g.T.TreeHash.digest_of added c.args.self.now c.append_four.new.self (texts_of c.args.tiles.now.items) (texts_of c.append_four.new.tiles.items))
    ((λ i. c.deref.ensures.value i ∷ c.deref-in-len4-up.ensures.value i ∷ c.deref-in-len4-up-2.ensures.value i ∷ c.deref-in-len4-up-3.ensures.value i ∷ [])
    ∙ ap (map vec_items) (sym front)) c.in_ok-append_four.ensures

pub returns-clause-adds : goal.returns-clause-adds
returns-clause-adds g c = grind (arith, common_steps)

pub returns-clause-within : goal.returns-clause-within
returns-clause-within g c = grind (arith, common_steps)
