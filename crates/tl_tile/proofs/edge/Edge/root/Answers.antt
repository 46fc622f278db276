use Rattle.std.proofs.Common.{ap, sym, ◌∙◌, arith}
use Rattle.tl_tile.proofs.Below.{root_of_none}
use Rattle.tl_tile.proofs.edge.Edge.root.Goals as goal

pub returns-in-None : goal.returns-in-None
returns-in-None g c entries is =
    let sized = is.0 ∙ sym (ap (λ e. e.size) c.self.view_is) in
    let kept = c.deref.ensures.value ∙ ap (λ e. e.kept) c.self.view_is ∙ is.2 in
    root_of_none g.T.TreeHash.digest_of entries c.empty_hash.result (omega (arith, sized, c.in-None.ensures entries sized kept)) c.empty_hash.ensures
