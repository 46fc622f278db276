use Rattle.std.proofs.Common.{inl}
use Rattle.tl_fetch.proofs.Passages.{still}
use Rattle.tl_policy.specs.Terms.{terms_of}
use Rattle.tl_prove.proofs.VerifyRuns.{failed_extra, not_printed, printed, refused_input}
use Rattle.tl_prove.proofs.verify_command.verify_by.Goals as goal

pub returns-in-Err : goal.returns-in-Err
returns-in-Err g c = inl (c.in-Err.ensures, still _ _, still _ _)

pub returns-in-Err-verify_input : goal.returns-in-Err-verify_input
returns-in-Err-verify_input g c =
    refused_input c.args.text.now c.args.entry.now c.leaf_hash-leaf.result (terms_of c.in-Ok.policy) _ _ c.leaf_hash-leaf.ensures c.in-Ok.ensures c.in-Err-verify_input.fault
    c.in-Err-verify_input.ensures (still _ _)

pub returns-in-Err-write_extra : goal.returns-in-Err-write_extra
returns-in-Err-write_extra g c =
    failed_extra c.args.text.now c.args.entry.now c.leaf_hash-leaf.result (terms_of c.in-Ok.policy) _ _ c.leaf_hash-leaf.ensures c.in-Ok.ensures c.in-Ok-verify_input.verified _
    c.in-Err-write_extra.fault c.in-Ok-verify_input.ensures c.as_deref.ensures.value c.in-Err-write_extra.ensures (still _ _)

pub returns-in-Ok-print_accepted : goal.returns-in-Ok-print_accepted
returns-in-Ok-print_accepted g c =
    printed c.args.text.now c.args.entry.now c.leaf_hash-leaf.result (terms_of c.in-Ok.policy) _ _ c.leaf_hash-leaf.ensures c.in-Ok.ensures c.in-Ok-verify_input.verified
    c.in-Ok-verify_input.ensures c.in-Ok-print_accepted.ensures

pub returns : goal.returns
returns g c =
    not_printed c.args.text.now c.args.entry.now c.leaf_hash-leaf.result (terms_of c.in-Ok.policy) _ _ c.leaf_hash-leaf.ensures c.in-Ok.ensures c.in-Ok-verify_input.verified
    c.in-Err-print_accepted.fault c.in-Ok-verify_input.ensures c.in-Err-print_accepted.ensures
