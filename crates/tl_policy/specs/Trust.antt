-- When a policy trusts a note's checkpoint (C2SP signed-note, "Verification"; tlog-checkpoint; tlog-policy).
use Rattle.std.specs.Prelude.{◌≡◌, ◌≢◌, ℕ, Bool, true, false, List, Option, None, Some, Result, Ok, Err, find, position, slice_get, vec_items}
use Rattle.std.specs.List.{list_any}
use Rattle.std.specs.Option.{option_map_or}
use Rattle.tl_hash.specs.Bytes.{Bytes}
use Rattle.tl_key.specs.NoteKey.{verifier_key}
use Rattle.tl_note.specs.Key.{Key}
use Rattle.tl_note.specs.Note.{HasNoNote, IsNote, Note, Signature}
use Rattle.tl_note.specs.Open.{is_of}
use Rattle.tl_checkpoint.specs.Checkpoint.{Head, IsHead, checkpoint_text, head_of}
use Rattle.tl_checkpoint.specs.ParseCheckpoint.{ParsesCheckpoint}
use Rattle.tl_checkpoint.specs.declared.checkpoint.CheckpointFault.TheVariants as why
use Rattle.tl_policy.specs.declared.trust.Trusted.{Trusted}
use Rattle.tl_policy.specs.declared.trust_fault.TrustFault.{TrustFault}
use Rattle.tl_policy.specs.declared.trust_fault.TrustFault.TheVariants.{NoNote, Unsigned, InvalidSignature, NoCheckpoint, OtherOrigin, NotSatisfied, OutOfMemory}
use Rattle.tl_policy.specs.Terms.{LogTerm, Terms}
use Rattle.tl_policy.specs.Satisfied.{FallsShort, is_satisfied}
use Rattle.tl_policy.specs.Cosigned.{AreTimes, cosigners}

-- a line is of this key
abbrev pub has_line : List Signature → LogTerm → Bool
has_line lines log = list_any (λ line. is_of line (verifier_key log.key)) lines

-- the first log of whose key there is a line
abbrev pub signer_of : Terms → List Signature → Option ℕ
signer_of p lines = position (has_line lines) p.logs

-- the first line of the key is a valid signature of the text
abbrev pub is_signed : Bytes → List Signature → Key → Bool
is_signed text lines key = option_map_or (λ line. key.accepts text line.bytes) (find (λ line. is_of line key) lines) false

-- the bytes are the note of this text and these lines, and this log of the policy is the first of whose key there is
-- one
pub record IsOfLog (p : Terms) (bytes text : Bytes) (lines : List Signature) (place : ℕ) (log : LogTerm) : Type 0 where
  pub noted : Note bytes text lines
  pub first : signer_of p lines ≡ Some place
  pub at : slice_get p.logs place ≡ Some log

-- and the log signed the text
pub record IsSignedBy (p : Terms) (bytes text : Bytes) (lines : List Signature) (place : ℕ) (log : LogTerm) : Type 0 where
  pub named : IsOfLog p bytes text lines place log
  pub signed : is_signed text lines (verifier_key log.key) ≡ true

-- and the text is that of a checkpoint of the log
pub record IsCheckpointOf (p : Terms) (bytes : Bytes) (c : Head) (lines : List Signature) (place : ℕ) (log : LogTerm) : Type 0 where
  pub signed : IsSignedBy p bytes (checkpoint_text c) lines place log
  pub stated : IsHead c
  pub origin : c.origin ≡ log.key.name

-- the policy trusts it: the witnesses that cosigned it satisfy the quorum
pub record IsTrusted (p : Terms) (bytes : Bytes) (c : Head) (place : ℕ) (times : List (Option ℕ)) : Type 0 where
  pub lines : List Signature
  pub log : LogTerm
  pub checkpoint : IsCheckpointOf p bytes c lines place log
  pub cosigned : AreTimes (checkpoint_text c) lines p.witnesses times
  pub satisfied : is_satisfied (cosigners times) p ≡ true

-- they don't: so many of its quorum's members are satisfied, and so many have to be
pub record IsNotSatisfied (p : Terms) (bytes : Bytes) (have want : ℕ) : Type 0 where
  pub c : Head
  pub lines : List Signature
  pub place : ℕ
  pub log : LogTerm
  pub times : List (Option ℕ)
  pub checkpoint : IsCheckpointOf p bytes c lines place log
  pub cosigned : AreTimes (checkpoint_text c) lines p.witnesses times
  pub short : FallsShort (cosigners times) p have want

-- the checkpoint that a policy trusts, or why it trusts none; memory is asked for a note alone
abbrev pub OpensUnder : {A : Type 0} → Terms → Bytes → Result (Trusted A) TrustFault → Type 0
OpensUnder p bytes (Ok t) = IsTrusted p bytes (head_of t.checkpoint) t.log (vec_items t.times)
OpensUnder p bytes (Err NoNote) = HasNoNote bytes
OpensUnder p bytes (Err Unsigned) = (text : Bytes) × (lines : List Signature) × Note bytes text lines × (signer_of p lines ≡ None)
OpensUnder p bytes (Err InvalidSignature) = (text : Bytes) × (lines : List Signature) × (place : ℕ) × (log : LogTerm) × IsOfLog p bytes text lines place log × (is_signed text lines (verifier_key log.key) ≡ false)
OpensUnder {A = A} p bytes (Err (NoCheckpoint fault)) = (text : Bytes) × (lines : List Signature) × (place : ℕ) × (log : LogTerm) × IsSignedBy p bytes text lines place log × ParsesCheckpoint {A = A} text (Err fault) × (fault ≢ why.OutOfMemory)
OpensUnder p bytes (Err OtherOrigin) = (c : Head) × (lines : List Signature) × (place : ℕ) × (log : LogTerm) × IsSignedBy p bytes (checkpoint_text c) lines place log × IsHead c × (c.origin ≢ log.key.name)
OpensUnder p bytes (Err (NotSatisfied short)) = IsNotSatisfied p bytes short.have short.want
OpensUnder p bytes (Err OutOfMemory) = IsNote bytes
