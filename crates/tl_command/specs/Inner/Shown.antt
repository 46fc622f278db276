-- Audits, as contracts see the values of the program.
use Rattle.std.specs.Prelude.{length, All, map, vec_items}
use Rattle.tl_hash.specs.Bytes.{IsHash}
use Rattle.tl_text.specs.Text.{IsSize}
use Rattle.tl_command.specs.declared.audit_text.AuditParts.{AuditParts}
use Rattle.tl_command.specs.AuditText.{Audit}

-- what an audit says, whichever allocators hold its entries and hashes
abbrev pub audit_shown : {A B : Type 0} → AuditParts A B → Audit
audit_shown parts = record { old = map vec_items parts.old.now; new = map vec_items parts.new.now; proof = vec_items parts.proof }

-- what is known of an audit once its lines are read, whatever its entries are
pub record IsAuditRead (a : Audit) : Type 0 where
  pub old_count : IsSize (length a.old)
  pub new_count : IsSize (length a.new)
  pub proof : All IsHash a.proof
