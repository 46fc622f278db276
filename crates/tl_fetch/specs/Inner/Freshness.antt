-- Steps of checking that a note was cosigned lately enough.
use Rattle.std.specs.Prelude.{◌≡◌, ◌⊎◌, ℕ, ◌<◌, ◌≤◌, List, Contains, Option, Some}
use Rattle.tl_hash.specs.Bytes.{Bytes}
use Rattle.tl_note.specs.Key.{Key}
use Rattle.tl_note.specs.Note.{HasNoNote, Note, Signature}
use Rattle.tl_checkpoint.specs.Cosignature.{IsCosignature}
use Rattle.tl_run.specs.declared.fault.RunFault.TheVariants.{OutOfMemory}
use Rattle.tl_fetch.specs.declared.fault.FetchFault.{FetchFault}
use Rattle.tl_fetch.specs.declared.fault.FetchFault.TheVariants.{Run, Stale}

-- the line is a cosignature of the text by the key, of this time or later
abbrev pub IsLate : Bytes → ℕ → Key → Signature → Type 0
IsLate text since key line = (time : ℕ) × IsCosignature text key line time × (since ≤ time)

-- the line is no cosignature of the text by the key, or one of an earlier time
abbrev pub IsEarly : Bytes → ℕ → Key → Signature → Type 0
IsEarly text since key line = (time : ℕ) → IsCosignature text key line time → time < since

-- one of the lines is late; each of the lines is early
abbrev pub HasLate : Bytes → List Signature → ℕ → Key → Type 0
HasLate text lines since key = (line : Signature) × Contains lines line × IsLate text since key line

abbrev pub AreEarly : Bytes → List Signature → ℕ → Key → Type 0
AreEarly text lines since key = (line : Signature) → Contains lines line → IsEarly text since key line

-- one of the lines is late by one of the keys; each is early by each key
abbrev pub SomeLate : Bytes → List Signature → ℕ → List Key → Type 0
SomeLate text lines since keys = (key : Key) × Contains keys key × HasLate text lines since key

abbrev pub AllEarly : Bytes → List Signature → ℕ → List Key → Type 0
AllEarly text lines since keys = (key : Key) → Contains keys key → AreEarly text lines since key

-- freshness is asked for, and the note's lines are all early
pub record IsOld (note : Bytes) (witnesses : List Key) (asked : Option ℕ) (since : ℕ) : Type 0 where
  pub told : asked ≡ Some since
  pub text : Bytes
  pub lines : List Signature
  pub noted : Note note text lines
  pub early : AllEarly text lines since witnesses

-- why a note isn't accepted as fresh
abbrev pub RefusesFresh : Bytes → List Key → Option ℕ → FetchFault → Type 0
RefusesFresh note witnesses asked fault =
    (fault ≡ Run OutOfMemory)
    ⊎ (HasNoNote note ⊎ ((since : ℕ) × (fault ≡ Stale since) × IsOld note witnesses asked since))
