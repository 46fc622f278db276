use Rattle.std.proofs.Common.{length, map, vec_items, sym}
use Rattle.std.proofs.lemmas.Bool.{both_ways}
use Rattle.std.proofs.lemmas.List.{length-map}
use Rattle.tl_proof.proofs.Audits.{AcceptsConsistency-ordered}
use Rattle.tl_proof.proofs.AuditAnswers.{AreAccepted-one, links_fork-one}
use Rattle.tl_proof.proofs.audit.audit_tree.Goals as goal

pub returns-then-not-check_tree : goal.returns-then-not-check_tree
returns-then-not-check_tree g c =
    let checked = rw (c.entry_root-new_root.ensures, c.entry_root-root.ensures) at c.check_tree.ensures in
    let one = AreAccepted-one g.T.TreeHash.digest_of (map vec_items c.args.old.now) (map vec_items c.args.new.now) c.args.proof.now (length c.args.old.now) (length c.args.new.now)
    (sym (length-map c.args.old.now vec_items)) (sym (length-map c.args.new.now vec_items)) in
    λ a. both_ways c.check_tree.result c.if-not-check_tree.true (checked.1 (one.1 a))

pub first_difference-requires : goal.first_difference-requires
first_difference-requires g c =
    AcceptsConsistency-ordered g.T.TreeHash.digest_of c.args.proof.now (length c.args.new.now) c.entry_root-new_root.result (length c.args.old.now) c.entry_root-root.result
    (c.check_tree.ensures.0 c.if-not-check_tree.false)

pub fork_in_link-in_link-requires : goal.fork_in_link-in_link-requires
fork_in_link-in_link-requires g c =
    AcceptsConsistency-ordered g.T.TreeHash.digest_of c.args.proof.now (length c.args.new.now) c.entry_root-new_root.result (length c.args.old.now) c.entry_root-root.result
    (c.check_tree.ensures.0 c.if-not-check_tree.false)

pub show_collision-requires-clause-most : goal.show_collision-requires-clause-most
show_collision-requires-clause-most g c =
    AcceptsConsistency-ordered g.T.TreeHash.digest_of c.args.proof.now (length c.args.new.now) c.entry_root-new_root.result (length c.args.old.now) c.entry_root-root.result
    (c.check_tree.ensures.0 c.if-not-check_tree.false)

pub returns-in-None : goal.returns-in-None
returns-in-None g c =
    let checked = rw (c.entry_root-new_root.ensures, c.entry_root-root.ensures) at c.check_tree.ensures in
    let one = AreAccepted-one g.T.TreeHash.digest_of (map vec_items c.args.old.now) (map vec_items c.args.new.now) c.args.proof.now (length c.args.old.now) (length c.args.new.now)
    (sym (length-map c.args.old.now vec_items)) (sym (length-map c.args.new.now vec_items)) in
    (one.0 (checked.0 c.if-not-check_tree.false), c.in-None.ensures)

pub returns-in-Some : goal.returns-in-Some
returns-in-Some g c =
    let checked = rw (c.entry_root-new_root.ensures, c.entry_root-root.ensures) at c.check_tree.ensures in
    let old_size = sym (length-map c.args.old.now vec_items) in
    let new_size = sym (length-map c.args.new.now vec_items) in
    let one = AreAccepted-one g.T.TreeHash.digest_of (map vec_items c.args.old.now) (map vec_items c.args.new.now) c.args.proof.now (length c.args.old.now) (length c.args.new.now)
    old_size new_size in
    let accepted = rw c.entry_root-new_root.ensures at (c.check_tree.ensures.0 c.if-not-check_tree.false) in
    c.show_collision.ensures _ (one.0 (checked.0 c.if-not-check_tree.false))
    (links_fork-one g.T.TreeHash.digest_of (map vec_items c.args.old.now) (map vec_items c.args.new.now) c.args.proof.now (length c.args.old.now) (length c.args.new.now)
    c.entry_root-root.result c.fork_in_link-in_link.result old_size new_size c.entry_root-root.ensures accepted c.fork_in_link-in_link.ensures)
