-- What an audit returns (RFC 6962, sections 2.1 and 2.1.2).
use Rattle.std.specs.Prelude.{List, length, Result, Ok, Err}
use Rattle.tl_hash.specs.Bytes.{Bytes, Digest}
use Rattle.tl_hash.specs.Tree.{tree_hash}
use Rattle.tl_proof.specs.Collisions.{IsPrefix, Exhibits, audit_inputs}
use Rattle.tl_proof.specs.Acceptance.{Step, Linked, EndsWith}
use Rattle.tl_proof.specs.declared.verdict.Verdict.{Verdict}
use Rattle.tl_proof.specs.declared.verdict.Verdict.TheVariants.{Extends, Collision}
use Rattle.tl_proof.specs.declared.verdict.AuditFault.{AuditFault}
use Rattle.tl_proof.specs.declared.verdict.AuditFault.TheVariants.{NotAccepted, OutOfMemory}

-- the steps are accepted one after another, from the size and root of the old list to those of the new one
abbrev pub AreAccepted : Digest → List Bytes → List Bytes → List Step → Type 0
AreAccepted H old new steps =
    Linked H (length old) (tree_hash H old) steps
    × EndsWith (length old) (tree_hash H old) steps (length new) (tree_hash H new)

-- the result of an audit from the old list over the steps to the new list; it allocates only if it has a collision to
-- show
abbrev pub Audits : {A : Type 0} → Digest → List Bytes → List Bytes → List Step → Result (Verdict A) AuditFault → Type 0
Audits H old new steps (Ok Extends) = AreAccepted H old new steps × IsPrefix old new
Audits H old new steps (Ok (Collision x y)) =
    AreAccepted H old new steps × ¬ (IsPrefix old new) × Exhibits H x.items y.items (audit_inputs H old new steps)
Audits H old new steps (Err NotAccepted) = ¬ (AreAccepted H old new steps)
Audits H old new steps (Err OutOfMemory) = AreAccepted H old new steps × ¬ (IsPrefix old new)
