-- Whether the witnesses that cosigned a note satisfy a policy's quorum (C2SP tlog-cosignature, tlog-policy).
use Rattle.std.specs.Prelude.{◌≡◌, ◌⊎◌, ℕ, Bool, false, List, Option}
use Rattle.tl_hash.specs.Bytes.{Bytes}
use Rattle.tl_note.specs.Note.{HasNoNote, Note, Signature}
use Rattle.tl_policy.specs.Cosigned.{AreTimes, cosigners}
use Rattle.tl_policy.specs.Satisfied.{is_satisfied}
use Rattle.tl_policy.specs.Terms.{Terms}

-- the bytes are a note, and the policy's witnesses that cosigned its text satisfy the quorum, or don't
pub record IsMetBy (p : Terms) (bytes : Bytes) (met : Bool) : Type 0 where
  pub text : Bytes
  pub lines : List Signature
  pub noted : Note bytes text lines
  pub times : List (Option ℕ)
  pub cosigned : AreTimes text lines p.witnesses times
  pub satisfied : is_satisfied (cosigners times) p ≡ met

-- so it is of a note; nothing else meets a quorum
abbrev pub MeetsQuorum : Terms → Bytes → Bool → Type 0
MeetsQuorum p bytes met = IsMetBy p bytes met ⊎ (HasNoNote bytes × (met ≡ false))
