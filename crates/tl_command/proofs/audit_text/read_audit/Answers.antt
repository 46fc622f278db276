use Rattle.std.proofs.Common.{◌∙◌, map, vec_items}
use Rattle.tl_text.specs.Text.{base64_text}
use Rattle.tl_command.proofs.CountedLines.{after_old, audit_cut, audit_found}
use Rattle.tl_command.proofs.audit_text.read_audit.Goals as goal

pub returns-in_default-clause-audit : goal.returns-in_default-clause-audit
returns-in_default-clause-audit g c = λ a lawful e. c.in_default.ensures.only a.old (after_old a) lawful.old_count (e ∙ audit_cut a)

pub returns-in_default-counted-clause-audit : goal.returns-in_default-counted-clause-audit
returns-in_default-counted-clause-audit g c = λ a lawful e.
    let behind = c.in-Some.ensures.only a.old (after_old a) lawful.old_count (e ∙ audit_cut a) in
    c.in_default-counted.ensures.only a.new (map base64_text a.proof) lawful.new_count behind.1

pub returns-in_default-2-clause-audit : goal.returns-in_default-2-clause-audit
returns-in_default-2-clause-audit g c = λ a lawful e.
    let behind = c.in-Some.ensures.only a.old (after_old a) lawful.old_count (e ∙ audit_cut a) in
    let hashes = c.in-Some-counted.ensures.only a.new (map base64_text a.proof) lawful.new_count behind.1 in
    (rw c.in_default-2.is at c.in_ok-proof.ensures.hashes) a.proof lawful.proof hashes.1

pub returns-clause-audit : goal.returns-clause-audit
returns-clause-audit g c =
    let hashes = rw c.in-Some-2.is at c.in_ok-proof.ensures.hashes in
    audit_found vec_items c.args.lines.now c.in-Some.old.now c.in-Some.rest.now c.in-Some-counted.new.now c.in-Some-counted.rest.now c.in-Some-2.proof.items
    c.in-Some.ensures.count c.in-Some-counted.ensures.count hashes.0 c.in-Some.ensures.found c.in-Some-counted.ensures.found hashes.1
