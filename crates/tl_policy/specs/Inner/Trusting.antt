-- Steps of trusting a note's checkpoint.
use Rattle.std.specs.Prelude.{◌≡◌, ◌≢◌, ℕ, true, false, List, Option, Result, Ok, Err}
use Rattle.tl_hash.specs.Bytes.{Bytes}
use Rattle.tl_key.specs.NoteKey.{PublicKey, verifier_key}
use Rattle.tl_note.specs.Note.{Signature}
use Rattle.tl_checkpoint.specs.Checkpoint.{Head, IsHead, checkpoint_text, head_of}
use Rattle.tl_checkpoint.specs.ParseCheckpoint.{ParsesCheckpoint}
use Rattle.tl_checkpoint.specs.declared.checkpoint.Checkpoint.{Checkpoint}
use Rattle.tl_checkpoint.specs.declared.checkpoint.CheckpointFault.TheVariants as why
use Rattle.tl_policy.specs.declared.trust_fault.TrustFault.{TrustFault}
use Rattle.tl_policy.specs.declared.trust_fault.TrustFault.TheVariants.{InvalidSignature, NoCheckpoint, OtherOrigin, NotSatisfied, OutOfMemory}
use Rattle.tl_policy.specs.Terms.{Terms}
use Rattle.tl_policy.specs.Satisfied.{FallsShort, is_satisfied}
use Rattle.tl_policy.specs.Cosigned.{cosigners}
use Rattle.tl_policy.specs.Trust.{is_signed}

-- the checkpoint of a text that this key signed, if the checkpoint is of that origin
abbrev pub ReadsSigned : {A : Type 0} → Bytes → List Signature → PublicKey → Result (Checkpoint A) TrustFault → Type 0
ReadsSigned text lines key (Ok c) = (is_signed text lines (verifier_key key) ≡ true) × IsHead (head_of c) × (text ≡ checkpoint_text (head_of c)) × ((head_of c).origin ≡ key.name)
ReadsSigned text lines key (Err InvalidSignature) = is_signed text lines (verifier_key key) ≡ false
ReadsSigned {A = A} text lines key (Err (NoCheckpoint fault)) = (is_signed text lines (verifier_key key) ≡ true) × ParsesCheckpoint {A = A} text (Err fault) × (fault ≢ why.OutOfMemory)
ReadsSigned text lines key (Err OtherOrigin) = (is_signed text lines (verifier_key key) ≡ true) × ((c : Head) × IsHead c × (text ≡ checkpoint_text c) × (c.origin ≢ key.name))
ReadsSigned text lines key (Err OutOfMemory) = Unit {0}
ReadsSigned text lines key (Err _) = ⊥

-- the quorum is satisfied by those that cosigned, or this many did
abbrev pub ChecksQuorum : Terms → List (Option ℕ) → Result (Unit {0}) TrustFault → Type 0
ChecksQuorum p times (Ok done) = is_satisfied (cosigners times) p ≡ true
ChecksQuorum p times (Err (NotSatisfied short)) = FallsShort (cosigners times) p short.have short.want
ChecksQuorum p times (Err OutOfMemory) = Unit {0}
ChecksQuorum p times (Err _) = ⊥
