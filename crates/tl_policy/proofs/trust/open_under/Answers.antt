use Rattle.std.proofs.Common.{get_or, refl}
use Rattle.tl_policy.specs.Terms.{log_term, terms_of}
use Rattle.tl_policy.proofs.TrustLaws.{checkpoint_refused, log_named, quorum_refused, trusted, unsigned}
use Rattle.tl_policy.proofs.trust.open_under.Goals as goal

pub returns-in_default : goal.returns-in_default
returns-in_default g c =
    unsigned (terms_of c.args.policy.now) c.args.note.now c.in-Ok.view.text.now c.in-Ok.view.signatures.items c.as_slice-lines.result.now c.args.policy.now.logs.items c.as_slice-logs.result.now
    refl c.in-Ok.ensures c.as_slice-lines.ensures.value c.as_slice-logs.ensures.value c.in_default.ensures

pub returns-in-Err-checkpoint_of : goal.returns-in-Err-checkpoint_of
returns-in-Err-checkpoint_of g c =
    checkpoint_refused (terms_of c.args.policy.now) c.args.note.now c.in-Ok.view.text.now c.as_slice-lines.result.now c.in-Some.log (log_term (get_or c.as_slice-logs.result.now c.in-Some.log c.index-logs-log.result))
    (log_named (terms_of c.args.policy.now) c.args.note.now c.in-Ok.view.text.now c.in-Ok.view.signatures.items c.as_slice-lines.result.now c.args.policy.now.logs.items c.as_slice-logs.result.now
    refl c.in-Ok.ensures c.as_slice-lines.ensures.value c.as_slice-logs.ensures.value c.in-Some.log c.index-logs-log.result c.in-Some.ensures)
    g.row.A.Denot c.in-Err-checkpoint_of.fault c.in-Err-checkpoint_of.ensures

pub returns-in-Ok-check_quorum : goal.returns-in-Ok-check_quorum
returns-in-Ok-check_quorum g c =
    trusted (terms_of c.args.policy.now) c.args.note.now c.in-Ok.view.text.now c.as_slice-lines.result.now c.in-Some.log (log_term (get_or c.as_slice-logs.result.now c.in-Some.log c.index-logs-log.result))
    (log_named (terms_of c.args.policy.now) c.args.note.now c.in-Ok.view.text.now c.in-Ok.view.signatures.items c.as_slice-lines.result.now c.args.policy.now.logs.items c.as_slice-logs.result.now
    refl c.in-Ok.ensures c.as_slice-lines.ensures.value c.as_slice-logs.ensures.value c.in-Some.log c.index-logs-log.result c.in-Some.ensures)
    g.row.A.Denot c.in-Ok-checkpoint_of.checkpoint c.in-Ok-checkpoint_of.ensures c.in-Ok-cosigned_by.times.items c.as_slice.result.now c.in-Ok-cosigned_by.ensures c.as_slice.ensures.value c.in-Ok-check_quorum.ensures

pub returns : goal.returns
returns g c =
    quorum_refused (terms_of c.args.policy.now) c.args.note.now c.in-Ok.view.text.now c.as_slice-lines.result.now c.in-Some.log (log_term (get_or c.as_slice-logs.result.now c.in-Some.log c.index-logs-log.result))
    (log_named (terms_of c.args.policy.now) c.args.note.now c.in-Ok.view.text.now c.in-Ok.view.signatures.items c.as_slice-lines.result.now c.args.policy.now.logs.items c.as_slice-logs.result.now
    refl c.in-Ok.ensures c.as_slice-lines.ensures.value c.as_slice-logs.ensures.value c.in-Some.log c.index-logs-log.result c.in-Some.ensures)
    g.row.A.Denot c.in-Ok-checkpoint_of.checkpoint c.in-Ok-checkpoint_of.ensures c.in-Ok-cosigned_by.times.items c.as_slice.result.now c.in-Ok-cosigned_by.ensures c.as_slice.ensures.value c.in-Err-check_quorum.fault c.in-Err-check_quorum.ensures
