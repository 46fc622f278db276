-- The command `check` against a signed checkpoint (C2SP tlog-checkpoint, signed-note).
use Rattle.std.specs.Prelude.{◌≡◌, ◌≢◌, List, [], ◌∷◌, Option, Result, Err}
use Rattle.tl_hash.specs.Bytes.{Bytes}
use Rattle.tl_note.specs.Key.{Key}
use Rattle.tl_note.specs.Note.{Signature, Note}
use Rattle.tl_checkpoint.specs.Checkpoint.{Head, IsHead, checkpoint_text}
use Rattle.tl_checkpoint.specs.OpenCheckpoint.{IsSignedCheckpoint}
use Rattle.tl_device.specs.Device.{Passage, IsSteady, IsUnread, IsUnwritten}
use Rattle.tl_key.specs.NoteKey.{verifier_key}
use Rattle.tl_command.specs.ProofCommands.{Subject, CheckAboutComes}
use Rattle.tl_run.specs.Run.{Runs}
use Rattle.tl_run.specs.declared.fault.RunFault.{RunFault}
use Rattle.tl_run.specs.declared.fault.RunFault.TheVariants.{BadKey, BadOrigin, BadCheckpoint, WrongSignature, Unverified, OutOfMemory}
use Rattle.tl_run.specs.declared.place.Place.TheVariants.{File}
use Rattle.tl_run.specs.Keys.{IsNoKey}
use Rattle.tl_command.specs.Open.{IsKeyWith, IsWrongNote, IsUnknownNote}

-- the bytes are no note of a checkpoint
abbrev pub IsNoCheckpoint : Bytes → Type 0
IsNoCheckpoint bytes = (c : Head) (lines : List Signature) → IsHead c → Note bytes (checkpoint_text c) lines → ⊥

-- what a proof has to be about: the tree of the checkpoint, and an entry, if one is given
abbrev pub subject_of : Head → Option Bytes → Subject
subject_of c entry = record { size = c.size; root = c.root; entry = entry }

-- the bytes are a signed checkpoint that opens, of a log with another name
pub record IsOfOther (bytes : Bytes) (keys : List Key) (name : Bytes) : Type 0 where
  pub checkpoint : Head
  pub signed : IsSignedCheckpoint bytes keys checkpoint
  pub other : checkpoint.origin ≢ name

-- the bytes are a signed checkpoint that opens, of the log with this name, and the proof is checked against it
pub record ChecksUnder (bytes : Bytes) (keys : List Key) (name : Bytes) (entry : Option Bytes) (i o : Passage) (result : Result (Unit {0}) RunFault) : Type 0 where
  pub checkpoint : Head
  pub signed : IsSignedCheckpoint bytes keys checkpoint
  pub named : checkpoint.origin ≡ name
  pub runs : Runs (CheckAboutComes (subject_of checkpoint entry)) i o result

-- nothing was read and nothing was written
abbrev pub IsIdle : Passage → Passage → Type 0
IsIdle i o = IsUnread i × IsUnwritten o

-- a run under these keys of a log with this name, with the bytes of a checkpoint: before anything is read it refuses
-- bytes that don't open, and a checkpoint of another log
abbrev pub RunsUnder : Bytes → List Key → Bytes → Option Bytes → Passage → Passage → Result (Unit {0}) RunFault → Type 0
RunsUnder bytes keys name entry i o (Err (BadCheckpoint place)) = (place ≡ File) × IsNoCheckpoint bytes × IsIdle i o
RunsUnder bytes keys name entry i o (Err (WrongSignature place)) = IsWrongNote keys bytes place × IsIdle i o
RunsUnder bytes keys name entry i o (Err Unverified) = IsUnknownNote keys bytes × IsIdle i o
RunsUnder bytes keys name entry i o (Err BadOrigin) = IsOfOther bytes keys name × IsIdle i o
RunsUnder bytes keys name entry i o (Err OutOfMemory) = IsSteady i × IsUnwritten o
RunsUnder bytes keys name entry i o result = ChecksUnder bytes keys name entry i o result

-- a run with the text of the log's verifier key
abbrev pub RunsCheckOpened : Bytes → Bytes → Option Bytes → Passage → Passage → Result (Unit {0}) RunFault → Type 0
RunsCheckOpened text bytes entry i o (Err BadKey) = IsNoKey text × IsIdle i o
RunsCheckOpened text bytes entry i o result = IsKeyWith text (λ k. RunsUnder bytes (verifier_key k ∷ []) k.name entry i o result)
