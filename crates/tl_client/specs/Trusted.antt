-- A checkpoint that a log signed and enough witnesses cosigned (C2SP tlog-checkpoint, tlog-cosignature).
use Rattle.std.specs.Prelude.{◌≡◌, ◌≢◌, ℕ, ◌<◌, ◌≤◌, List, Contains, length, Result, Ok, Err}
use Rattle.std.specs.List.{All, AllPairs}
use Rattle.tl_hash.specs.Bytes.{Bytes}
use Rattle.tl_note.specs.Key.{Key}
use Rattle.tl_note.specs.Note.{IsNote, Signature}
use Rattle.tl_note.specs.OpenNote.{OpensNote}
use Rattle.tl_note.specs.declared.fault.NoteFault.{NoteFault}
use Rattle.tl_note.specs.declared.fault.NoteFault.TheVariants as note
use Rattle.tl_checkpoint.specs.Checkpoint.{Head, head_of, checkpoint_text}
use Rattle.tl_checkpoint.specs.OpenCheckpoint.{IsSignedCheckpoint, HasOtherText}
use Rattle.tl_checkpoint.specs.Cosignature.{IsCosignature}
use Rattle.tl_checkpoint.specs.declared.checkpoint.Checkpoint.{Checkpoint}
use Rattle.tl_checkpoint.specs.declared.checkpoint.CheckpointFault.{CheckpointFault}
use Rattle.tl_checkpoint.specs.declared.checkpoint.CheckpointFault.TheVariants as checkpoint
use Rattle.tl_client.specs.declared.head.HeadFault.{HeadFault}
use Rattle.tl_client.specs.declared.head.HeadFault.TheVariants as head

-- what a fault of a note becomes
abbrev pub after_note : NoteFault → HeadFault
after_note note.OutOfMemory = head.OutOfMemory
after_note fault = head.Unopened fault

-- what a fault of a checkpoint's text becomes
abbrev pub after_checkpoint : CheckpointFault → HeadFault
after_checkpoint checkpoint.OutOfMemory = head.OutOfMemory
after_checkpoint fault = head.NoCheckpoint fault

-- what a client trusts: the keys of the log, and any `need` of the witnesses with these keys; a witness has one name
-- and may have several keys
pub record Trust : Type 0 where
  pub keys : List Key
  pub witnesses : List Key
  pub need : ℕ

-- the witness with this name cosigned the text: one of the lines is its cosignature, by one of its keys, at some time
pub record HasCosigned (text : Bytes) (witnesses : List Key) (lines : List Signature) (name : Bytes) : Type 0 where
  pub line : Signature
  pub stands : Contains lines line
  pub key : Key
  pub known : Contains witnesses key
  pub named : key.name ≡ name
  pub time : ℕ
  pub valid : IsCosignature text key line time

-- these are the names of all witnesses that cosigned the text, each once
pub record AreCosigners (text : Bytes) (witnesses : List Key) (lines : List Signature) (names : List Bytes) : Type 0 where
  pub each : All (HasCosigned text witnesses lines) names
  pub apart : AllPairs (λ a b. a ≢ b) names
  pub all : (name : Bytes) → HasCosigned text witnesses lines name → Contains names name

-- the bytes are a note of this checkpoint that opens with the log's keys, and `count` witnesses cosigned it
pub record IsCosigned (bytes : Bytes) (trust : Trust) (c : Head) (count : ℕ) : Type 0 where
  pub signed : IsSignedCheckpoint bytes trust.keys c
  pub names : List Bytes
  pub cosigners : AreCosigners (checkpoint_text c) trust.witnesses signed.lines names
  pub counted : length names ≡ count

-- enough witnesses cosigned it
abbrev pub IsTrusted : Bytes → Trust → Head → Type 0
IsTrusted bytes trust c = (count : ℕ) × IsCosigned bytes trust c count × (trust.need ≤ count)

-- only `count` witnesses cosigned it, and more must
abbrev pub HasTooFew : Bytes → Trust → ℕ → Type 0
HasTooFew bytes trust count = (c : Head) × IsCosigned bytes trust c count × (count < trust.need)

-- The checkpoint, or the first reason why it isn't trusted. Memory is allocated only for a note.
abbrev pub OpensHead : {A : Type 0} → Bytes → Trust → Result (Checkpoint A) HeadFault → Type 0
OpensHead bytes trust (Ok c) = IsTrusted bytes trust (head_of c)
OpensHead {A = A} bytes trust (Err (head.Unopened fault)) =
    OpensNote {A = A} bytes trust.keys (Err fault) × (fault ≢ note.OutOfMemory)
OpensHead {A = A} bytes trust (Err (head.NoCheckpoint fault)) =
    HasOtherText A bytes trust.keys fault × (fault ≢ checkpoint.OutOfMemory)
OpensHead bytes trust (Err (head.TooFew count)) = HasTooFew bytes trust count
OpensHead bytes trust (Err head.OutOfMemory) = IsNote bytes
