use Rattle.std.proofs.Common.{length, map, vec_items, sym, subst}
use Rattle.std.proofs.lemmas.Bool.{both_ways}
use Rattle.std.proofs.lemmas.List.{length-map}
use Rattle.tl_proof.specs.Acceptance.{step_of, EndsWith}
use Rattle.tl_proof.proofs.AuditAnswers.{AreAccepted-led, links_fork-led}
use Rattle.tl_proof.proofs.Chains.{linked_most}
use Rattle.tl_proof.proofs.audit.audit_chain.Goals as goal

pub returns-then-not-links_lead : goal.returns-then-not-links_lead
returns-then-not-links_lead g c =
    let led = AreAccepted-led g.T.TreeHash.digest_of (map vec_items c.args.old.now) (map vec_items c.args.new.now) (map step_of c.args.links.now) (length c.args.old.now) (length c.args.new.now)
    c.entry_root-root.result c.entry_root-new_root.result (sym (length-map c.args.old.now vec_items)) (sym (length-map c.args.new.now vec_items)) c.entry_root-root.ensures c.entry_root-new_root.ensures in
    λ a. both_ways c.links_lead.result c.if-not-links_lead.true (c.links_lead.ensures.1 (led.1 a))

pub first_difference-requires : goal.first_difference-requires
first_difference-requires g c =
    let led = c.links_lead.ensures.0 c.if-not-links_lead.false in
    linked_most g.T.TreeHash.digest_of (map step_of c.args.links.now) (length c.args.old.now) c.entry_root-root.result (length c.args.new.now) c.entry_root-new_root.result led.0 led.1

pub returns-in-None : goal.returns-in-None
returns-in-None g c =
    let led = AreAccepted-led g.T.TreeHash.digest_of (map vec_items c.args.old.now) (map vec_items c.args.new.now) (map step_of c.args.links.now) (length c.args.old.now) (length c.args.new.now)
    c.entry_root-root.result c.entry_root-new_root.result (sym (length-map c.args.old.now vec_items)) (sym (length-map c.args.new.now vec_items)) c.entry_root-root.ensures c.entry_root-new_root.ensures in
    (led.0 (c.links_lead.ensures.0 c.if-not-links_lead.false), c.in-None.ensures)

pub fork_in_links-in_links-requires-clause-linked : goal.fork_in_links-in_links-requires-clause-linked
fork_in_links-in_links-requires-clause-linked g c = (c.links_lead.ensures.0 c.if-not-links_lead.false).0

pub fork_in_links-in_links-requires-clause-ends : goal.fork_in_links-in_links-requires-clause-ends
fork_in_links-in_links-requires-clause-ends g c =
    subst (EndsWith (length c.args.old.now) c.entry_root-root.result (map step_of c.args.links.now) (length c.args.new.now)) c.entry_root-new_root.ensures
    (c.links_lead.ensures.0 c.if-not-links_lead.false).1

pub show_collision-requires-clause-most : goal.show_collision-requires-clause-most
show_collision-requires-clause-most g c =
    let led = c.links_lead.ensures.0 c.if-not-links_lead.false in
    linked_most g.T.TreeHash.digest_of (map step_of c.args.links.now) (length c.args.old.now) c.entry_root-root.result (length c.args.new.now) c.entry_root-new_root.result led.0 led.1

pub returns-in-Some : goal.returns-in-Some
returns-in-Some g c =
    let H = g.T.TreeHash.digest_of in
    let old = map vec_items c.args.old.now in
    let new = map vec_items c.args.new.now in
    let steps = map step_of c.args.links.now in
    let old_size = sym (length-map c.args.old.now vec_items) in
    let led = AreAccepted-led H old new steps (length c.args.old.now) (length c.args.new.now)
    c.entry_root-root.result c.entry_root-new_root.result old_size (sym (length-map c.args.new.now vec_items)) c.entry_root-root.ensures c.entry_root-new_root.ensures in
    c.show_collision.ensures steps (led.0 (c.links_lead.ensures.0 c.if-not-links_lead.false))
    (links_fork-led H old new steps (length c.args.old.now) c.entry_root-root.result c.fork_in_links-in_links.result old_size c.entry_root-root.ensures c.fork_in_links-in_links.ensures)
