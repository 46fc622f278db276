-- What a policy accepts as a proof that an entry is in a log (C2SP tlog-proof, tlog-policy).
use Rattle.std.specs.Prelude.{◌≡◌, ◌≢◌, ℕ, List, Option, Result, Ok, Err, IsUtf8, option_map, vec_items}
use Rattle.sha2.specs.Sha256.{sha256}
use Rattle.tl_hash.specs.Bytes.{Bytes}
use Rattle.tl_checkpoint.specs.Checkpoint.{Head, head_of}
use Rattle.tl_offline.specs.ProofText.{TlogProof}
use Rattle.tl_offline.specs.ParseProof.{IsNoProofFor, IsProofText}
use Rattle.tl_offline.specs.CheckEntry.{Accepts, ChecksEntry}
use Rattle.tl_offline.specs.declared.checking.EntryFault.{EntryFault}
use Rattle.tl_policy.specs.Terms.{Terms}
use Rattle.tl_policy.specs.Trust.{IsTrusted, OpensUnder}
use Rattle.tl_policy.specs.declared.trust.Trusted.{Trusted}
use Rattle.tl_policy.specs.declared.trust_fault.TrustFault.TheVariants as trust
use Rattle.tl_prove.specs.declared.verifying.Verified.{Verified}
use Rattle.tl_prove.specs.declared.fault.Refusal.{Refusal}
use Rattle.tl_prove.specs.declared.fault.Refusal.TheVariants.{NotText, Proof, Trust, Entry, OutOfMemory}

-- The policy accepts the text for the leaf hash of an entry: the text is this proof's, the policy trusts its note as
-- that of this checkpoint, which a log of the policy signed and which witnesses that satisfy the quorum cosigned at
-- these times, and the entry is at the proof's index under the checkpoint's size and root.
pub record IsAccepted (p : Terms) (text leaf : Bytes) (proof : TlogProof) (c : Head) (log : ℕ) (times : List (Option ℕ)) : Type 0 where
  pub spelled : IsProofText text proof
  pub trusted : IsTrusted p proof.note c log times
  pub included : Accepts sha256 proof c.size c.root leaf

-- the text is a proof whose checkpoint is trusted, but the entry isn't at its index, for this reason
pub record IsElsewhere (p : Terms) (text leaf : Bytes) (why : Result (Unit {0}) EntryFault) : Type 0 where
  pub proof : TlogProof
  pub c : Head
  pub log : ℕ
  pub times : List (Option ℕ)
  pub spelled : IsProofText text proof
  pub trusted : IsTrusted p proof.note c log times
  pub refused : ChecksEntry sha256 proof c.size c.root leaf why

-- opening the note of a proof
abbrev pub OpensNote : {A : Type 0} → Terms → Bytes → Result (Trusted A) Refusal → Type 0
OpensNote p note (Ok t) = OpensUnder p note (Ok t)
OpensNote {A = A} p note (Err (Trust fault)) = OpensUnder {A = A} p note (Err fault) × (fault ≢ trust.OutOfMemory)
OpensNote p note (Err OutOfMemory) = Unit {0}
OpensNote p note (Err fault) = ⊥

-- what a text shows of the entry with this leaf hash, or why it isn't accepted
abbrev pub VerifiesText : {A : Type 0} → Terms → Bytes → Bytes → Result (Verified A) Refusal → Type 0
VerifiesText p leaf text (Ok v) =
    (proof : TlogProof) × IsAccepted p text leaf proof (head_of v.trusted.checkpoint) v.trusted.log (vec_items v.trusted.times)
    × (v.index ≡ proof.index) × (option_map vec_items v.extra ≡ proof.extra)
VerifiesText p leaf text (Err NotText) = ⊥
VerifiesText p leaf text (Err (Proof fault)) = IsNoProofFor text fault
VerifiesText {A = A} p leaf text (Err (Trust fault)) =
    (proof : TlogProof) × IsProofText text proof × OpensUnder {A = A} p proof.note (Err fault) × (fault ≢ trust.OutOfMemory)
VerifiesText p leaf text (Err (Entry fault)) = IsElsewhere p text leaf (Err fault)
VerifiesText p leaf text (Err OutOfMemory) = (proof : TlogProof) × IsProofText text proof

-- the same of bytes, which may be no text
abbrev pub Verifies : {A : Type 0} → Terms → Bytes → Bytes → Result (Verified A) Refusal → Type 0
Verifies p leaf bytes (Err NotText) = IsUtf8 bytes → ⊥
Verifies p leaf bytes outcome = VerifiesText p leaf bytes outcome
