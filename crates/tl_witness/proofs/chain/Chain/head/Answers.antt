use Rattle.std.proofs.Common.{◌≡◌, ◌∙◌, ap, sym}
use Rattle.tl_proof.specs.Acceptance.{step_of}
use Rattle.tl_witness.specs.Chain.{TreeHead, head_after, first_head, last_head}
use Rattle.tl_witness.proofs.ChainLaws.{last_head-map, last_head-none}
use Rattle.tl_witness.proofs.chain.Chain.head.Given as given
use Rattle.tl_witness.proofs.chain.Chain.head.Goals as goal

leads : (g : given.Over) (c : goal.After-result-1 g) → last_head (first_head g.T.TreeHash.digest_of) c.args.self.now ≡ head_after (step_of c.in-Some.link.now)
leads g c =
    let value = rw c.deref.ensures.value at c.in-Some.ensures.value in
    rw (← c.self.view_is) (last_head-map step_of (first_head g.T.TreeHash.digest_of) c.self.inside.links.items c.in-Some.link.now value)

pub returns-in-Some-clause-size : goal.returns-in-Some-clause-size
returns-in-Some-clause-size g c = ap (λ (h : TreeHead). h.size) (sym (leads g c))

pub returns-in-Some-clause-root : goal.returns-in-Some-clause-root
returns-in-Some-clause-root g c = ap (λ (h : TreeHead). h.root) (sym (leads g c))

pub returns-in-None-clause-size : goal.returns-in-None-clause-size
returns-in-None-clause-size g c =
    let none = rw c.deref.ensures.value at c.in-None.ensures.value in
    rw (← c.self.view_is) (ap (λ (h : TreeHead). h.size) (sym (last_head-none step_of (first_head g.T.TreeHash.digest_of) c.self.inside.links.items none)))

pub returns-in-None-clause-root : goal.returns-in-None-clause-root
returns-in-None-clause-root g c =
    let none = rw c.deref.ensures.value at c.in-None.ensures.value in
    rw (← c.self.view_is) (c.empty_hash.ensures ∙ ap (λ (h : TreeHead). h.root) (sym (last_head-none step_of (first_head g.T.TreeHash.digest_of) c.self.inside.links.items none)))
