-- The command `audit`.
use Rattle.std.specs.Prelude.{◌≡◌, ◌≢◌, ◌⊎◌, List, [], ◌∷◌, ◌++◌, length, codes}
use Rattle.tl_hash.specs.Bytes.{Bytes, Digest}
use Rattle.hex.specs.Hex.{encode_lower}
use Rattle.tl_hash.specs.Tree.{tree_hash}
use Rattle.tl_text.specs.Text.{line}
use Rattle.tl_proof.specs.Audit.{AreAccepted}
use Rattle.tl_proof.specs.Collisions.{IsPrefix, Exhibits, audit_inputs}
use Rattle.tl_proof.specs.Acceptance.{Step}
use Rattle.tl_command.specs.AuditText.{Audit, IsAudit, audit_text}
use Rattle.tl_run.specs.Run.{Output, Prints, PrintsRefusal, Fails}
use Rattle.tl_run.specs.declared.fault.RunFault.TheVariants.{Malformed}

-- the one step of an audit: by the proof to the new list's size and root
abbrev pub audited_steps : Digest → Audit → List Step
audited_steps H a = record { size = length a.new; root = tree_hash H a.new; proof = a.proof } ∷ []

-- the proof is accepted from the old list's size and root to the new list's (RFC 6962, section 2.1.2)
abbrev pub IsAccepted : Digest → Audit → Type 0
IsAccepted H a = AreAccepted H a.old a.new (audited_steps H a)

-- the text shows two different byte strings that were hashed for the audit and have one digest
pub record ShowsCollision (H : Digest) (a : Audit) (text : Bytes) : Type 0 where
  pub first : Bytes
  pub second : Bytes
  pub collide : Exhibits H first second (audit_inputs H a.old a.new (audited_steps H a))
  pub spelled : text ≡ line (codes "collision") ++ line (encode_lower first) ++ line (encode_lower second)

-- what is printed if the answer is no
abbrev pub AuditRefuses : Digest → Audit → Bytes → Type 0
AuditRefuses H a text =
    (¬ (IsAccepted H a) × (text ≡ line (codes "not accepted")))
    ⊎ (IsAccepted H a × ¬ (IsPrefix a.old a.new) × ShowsCollision H a text)

-- the input is the text of an audit that has this property
pub record IsAuditOf (Fact : Audit → Type 0) (input : Bytes) : Type 0 where
  pub audit : Audit
  pub lawful : IsAudit audit
  pub spelled : input ≡ audit_text audit
  pub fact : Fact audit

-- the output for an input: the proof is accepted and the old list is a prefix of the new one; or the answer is no; or
-- the input is malformed
abbrev pub AuditComes : Digest → Bytes → Output → Type 0
AuditComes H input (Prints text) = IsAuditOf (λ a. IsAccepted H a × IsPrefix a.old a.new) input × (text ≡ line (codes "extends"))
AuditComes H input (PrintsRefusal text) = IsAuditOf (λ a. AuditRefuses H a text) input
AuditComes H input (Fails Malformed) = (a : Audit) → IsAudit a → input ≢ audit_text a
AuditComes H input (Fails fault) = ⊥
