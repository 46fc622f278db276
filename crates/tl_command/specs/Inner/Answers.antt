-- What a command answers once its input is read.
use Rattle.std.specs.Prelude.{◌≡◌, ◌≢◌, ◌⊎◌, ◌<◌, true, false, length, codes, vec_items, Result, Ok, Err}
use Rattle.tl_text.specs.Text.{line}
use Rattle.tl_proof.specs.Collisions.{IsPrefix}
use Rattle.tl_command.specs.AuditText.{Audit, IsAudit, audit_text}
use Rattle.tl_command.specs.declared.commands.audit.Answer.{Answer}
use Rattle.tl_run.specs.declared.fault.RunFault.{RunFault}
use Rattle.tl_run.specs.declared.fault.RunFault.TheVariants.{Malformed, OutOfMemory}
use Rattle.tl_command.specs.AuditCommand.{IsAccepted, AuditRefuses, IsAuditOf}
use Rattle.tl_hash.specs.Bytes.{Bytes, Digest}

-- the answer to an audit: the new list extends the old one, or the answer is no
abbrev pub AnswersAudit : {A : Type 0} → Digest → Audit → Answer A → Type 0
AnswersAudit H a answer =
    ((answer.yes ≡ true) × IsAccepted H a × IsPrefix a.old a.new × (vec_items answer.text ≡ line (codes "extends")))
    ⊎ ((answer.yes ≡ false) × AuditRefuses H a (vec_items answer.text))

-- the answer to a text: that to its audit, or that it is no audit's text
abbrev pub AnswersAuditText : {A : Type 0} → Digest → Bytes → Result (Answer A) RunFault → Type 0
AnswersAuditText H text (Ok answer) = IsAuditOf (λ a. AnswersAudit H a answer) text
AnswersAuditText H text (Err Malformed) = (a : Audit) → IsAudit a → text ≢ audit_text a
AnswersAuditText H text (Err OutOfMemory) = 0 < length text
AnswersAuditText H text (Err fault) = ⊥
