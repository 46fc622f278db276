use Rattle.std.proofs.lemmas.Bool.{both_ways, false≢true, eqb-true}
use Rattle.tl_proof.specs.Acceptance.{step_of}
use Rattle.tl_proof.proofs.Chains.{LeadOn-step, LeadOn-refused, LeadOn-end}
use Rattle.tl_proof.proofs.audit.links.links_lead.Goals as goal

pub returns-then-not-check_tree : goal.returns-then-not-check_tree
returns-then-not-check_tree g c =
    let checked = rw c.as_slice.ensures at c.check_tree.ensures in (
      λ e. absurd (false≢true e),
      λ a. absurd (LeadOn-refused step_of g.T.TreeHash.digest_of c.loop-link.at c.loop-link.at_root c.args.links.now c.loop-link.link-index c.link-item.result
          c.args.old c.args.old_root c.args.size c.args.root c.loop-link-test.true c.link-item.is
          (λ accepted. both_ways c.check_tree.result c.if-not-check_tree.true (checked.1 accepted)) c.loop-link.invariant a),
    )

pub loop-link-preserved : goal.loop-link-preserved
loop-link-preserved g c =
    let checked = rw c.as_slice.ensures at c.check_tree.ensures in
    LeadOn-step step_of g.T.TreeHash.digest_of c.loop-link.at c.loop-link.at_root c.args.links.now c.loop-link.link-index c.link-item.result
    c.args.old c.args.old_root c.args.size c.args.root c.loop-link-test.true c.link-item.is (checked.0 c.if-not-check_tree.false) c.loop-link.invariant

pub returns-then-at-size : goal.returns-then-at-size
returns-then-at-size g c =
    let last = LeadOn-end step_of g.T.TreeHash.digest_of c.loop-link.at c.loop-link.at_root c.args.links.now c.loop-link.link-index
    c.args.old c.args.old_root c.args.size c.args.root c.loop-link-test.false c.loop-link.invariant in
    (λ e. last.0 (c.if-at-size.true, c.same.ensures.0 e), λ a. c.same.ensures.1 (last.1 a).1)

pub returns-else-at-size : goal.returns-else-at-size
returns-else-at-size g c =
    let last = LeadOn-end step_of g.T.TreeHash.digest_of c.loop-link.at c.loop-link.at_root c.args.links.now c.loop-link.link-index
    c.args.old c.args.old_root c.args.size c.args.root c.loop-link-test.false c.loop-link.invariant in
    (λ e. absurd (c.if-at-size.false (eqb-true c.loop-link.at c.args.size e)), λ a. absurd (c.if-at-size.false (last.1 a).0))
