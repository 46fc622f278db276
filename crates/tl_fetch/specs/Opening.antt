-- Why a checkpoint isn't trusted (C2SP signed-note, tlog-checkpoint, tlog-cosignature).
use Rattle.std.specs.Prelude.{◌≡◌, ◌≢◌, ◌⊎◌, ◌<◌, ℕ, false, List, Contains, Err, IsUtf8, Option, Some, None}
use Rattle.std.specs.List.{list_any}
use Rattle.std.specs.Global.{Global}
use Rattle.tl_hash.specs.Bytes.{Bytes}
use Rattle.tl_note.specs.Key.{Key}
use Rattle.tl_note.specs.Note.{Note, Signature}
use Rattle.tl_tile.specs.declared.resource.Resource.{Resource}
use Rattle.tl_tile.specs.declared.resource.Resource.TheVariants.{Checkpoint}
use Rattle.tl_checkpoint.specs.Checkpoint as checkpoint
use Rattle.tl_checkpoint.specs.Cosignature.{IsCosignature}
use Rattle.tl_client.specs.Trusted.{IsTrusted, OpensHead}
use Rattle.tl_client.specs.declared.head.HeadFault.{HeadFault}
use Rattle.tl_policy.specs.Terms.{Terms}
use Rattle.tl_policy.specs.Trust as file
use Rattle.tl_policy.specs.declared.trust_fault.TrustFault.{TrustFault}
use Rattle.tl_run.specs.declared.place.Place.TheVariants.{State}
use Rattle.tl_run.specs.declared.fault.RunFault.TheVariants.{BadCheckpoint, OutOfMemory}
use Rattle.tl_fetch.specs.declared.fault.FetchFault.{FetchFault}
use Rattle.tl_fetch.specs.declared.fault.FetchFault.TheVariants.{Run, OtherLog, Stale, Unavailable}
use Rattle.tl_fetch.specs.Faults.{after_head, after_trust, bad_checkpoint}
use Rattle.tl_fetch.specs.Trusting.{Policy, Under, alone, is_late}

-- the note is trusted, and of a log with another name
pub record IsOfOther (policy : Policy) (note : Bytes) : Type 0 where
  pub checkpoint : checkpoint.Head
  pub trusted : IsTrusted note policy.trust checkpoint
  pub other : checkpoint.origin ≢ policy.origin

-- the note isn't trusted, for a reason that has this fault
abbrev pub IsUntrusted : Policy → Bytes → FetchFault → Type 0
IsUntrusted policy note fault =
    (why : HeadFault) × OpensHead {A = Global} note policy.trust (Err why) × (fault ≡ after_head why)

-- the note is trusted but for its age: each cosignature by one of the witnesses is of an earlier time than this
pub record IsStale (policy : Policy) (note : Bytes) (since : ℕ) : Type 0 where
  pub checkpoint : checkpoint.Head
  pub trusted : IsTrusted note policy.trust checkpoint
  pub origin : checkpoint.origin ≡ policy.origin
  pub asked : policy.since ≡ Some since
  pub text : Bytes
  pub lines : List Signature
  pub noted : Note note text lines
  pub early : (key : Key) (line : Signature) (time : ℕ) → Contains policy.trust.witnesses key → Contains lines line → IsCosignature text key line time → time < since

-- the text of a policy doesn't trust the note, for a reason that has this fault
abbrev pub IsUntrustedBy : Terms → Bytes → FetchFault → Type 0
IsUntrustedBy terms note fault =
    (why : TrustFault) × file.OpensUnder {A = Global} terms note (Err why) × (fault ≡ after_trust why)

-- it does, and none of its witnesses cosigned the note's checkpoint at the time that is asked for, or later
pub record IsOldUnder (under : Under) (note : Bytes) (since : ℕ) : Type 0 where
  pub asked : under.since ≡ Some since
  pub checkpoint : checkpoint.Head
  pub place : ℕ
  pub times : List (Option ℕ)
  pub trusted : file.IsTrusted under.terms note checkpoint place times
  pub early : list_any (is_late since) times ≡ false

-- why a note isn't trusted by what a text says
abbrev pub RefusesUnder : Option Under → Bytes → FetchFault → Type 0
RefusesUnder None note fault = ⊥
RefusesUnder (Some under) note fault =
    IsUntrustedBy under.terms note fault ⊎ ((since : ℕ) × (fault ≡ Stale since) × IsOldUnder under note since)

-- why a note gives no size and root
abbrev pub RefusesNote : Policy → Bytes → FetchFault → Type 0
RefusesNote policy note fault =
    ((fault ≡ OtherLog) × IsOfOther policy note)
    ⊎ (IsUntrusted policy note fault
    ⊎ (((since : ℕ) × (fault ≡ Stale since) × IsStale policy note since) ⊎ RefusesUnder policy.under note fault))

-- the fault if a state's note gives no size and root
abbrev pub after_state : FetchFault → FetchFault
after_state (Run OutOfMemory) = Run OutOfMemory
after_state fault = Run (BadCheckpoint State)

-- the note of a state isn't the log's, whoever cosigned it
abbrev pub RefusesState : Policy → Option Bytes → FetchFault → Type 0
RefusesState policy None fault = ⊥
RefusesState policy (Some note) fault = (why : FetchFault) × RefusesNote (alone policy) note why × (fault ≡ after_state why)

-- the source's bytes for the checkpoint are no text, or a note that isn't trusted
abbrev pub RefusesBytes : Policy → Bytes → FetchFault → Type 0
RefusesBytes policy bytes fault = (¬ (IsUtf8 bytes) × (fault ≡ Run bad_checkpoint)) ⊎ RefusesNote policy bytes fault

-- a source that may answer these texts and may lack these resources gives no checkpoint that is trusted: it lacks it,
-- memory ran out, or its bytes are refused
abbrev pub RefusesCheckpoint : (Resource → Bytes → Type 0) → (Resource → Type 0) → Policy → FetchFault → Type 0
RefusesCheckpoint answers lacks policy fault =
    ((fault ≡ Unavailable) × lacks Checkpoint)
    ⊎ ((fault ≡ Run OutOfMemory)
    ⊎ ((bytes : Bytes) × answers Checkpoint bytes × RefusesBytes policy bytes fault))
