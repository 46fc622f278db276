use Rattle.std.proofs.Common.{inl, inr, map, vec_items, sym, ◌∙◌}
use Rattle.std.proofs.lemmas.List.{length-map}
use Rattle.tl_proof.proofs.ForkedLinks.{link-none, link-walk, link-nowhere}
use Rattle.tl_proof.proofs.audit.link_walk.fork_in_link.Goals as goal

pub returns-then-old-eq0 : goal.returns-then-old-eq0
returns-then-old-eq0 g c =
    link-none g.T.TreeHash.digest_of c.args.proof.now c.args.old c.args.old_root (map vec_items c.args.list.now) (inl c.if-old-eq0.true)

pub returns-then-old-list : goal.returns-then-old-list
returns-then-old-list g c =
    link-none g.T.TreeHash.digest_of c.args.proof.now c.args.old c.args.old_root (map vec_items c.args.list.now)
    (inr (c.if-old-list.true ∙ sym (length-map c.args.list.now vec_items)))

pub returns-in-Some : goal.returns-in-Some
returns-in-Some g c =
    link-walk g.T.TreeHash.digest_of c.args.proof.now c.args.old c.args.old_root (map vec_items c.args.list.now) c.in-Some.walk
    c.if-old-eq0.false (λ e. c.if-old-list.false (e ∙ length-map c.args.list.now vec_items)) c.in-Some.ensures

pub returns-in-None : goal.returns-in-None
returns-in-None g c = λ accepted.
    absurd (link-nowhere g.T.TreeHash.digest_of c.args.proof.now c.args.old c.args.old_root (map vec_items c.args.list.now)
    c.if-old-eq0.false (λ e. c.if-old-list.false (e ∙ length-map c.args.list.now vec_items)) c.in-None.ensures accepted)
