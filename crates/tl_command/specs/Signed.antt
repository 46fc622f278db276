-- The command `build` with a private key (C2SP signed-note, "Verifier keys"; golang.org/x/mod/sumdb/note).
use Rattle.std.specs.Prelude.{◌≡◌, ◌≢◌, Option, Result, Err}
use Rattle.tl_hash.specs.Bytes.{Bytes}
use Rattle.tl_key.specs.NoteKey.{SeedKey, note_kind}
use Rattle.tl_device.specs.Device.{Passage, IsSteady, IsUnread, IsUnwritten}
use Rattle.tl_run.specs.declared.fault.RunFault.{RunFault}
use Rattle.tl_run.specs.declared.fault.RunFault.TheVariants.{BadKeyFile, BadOrigin, OutOfMemory}
use Rattle.tl_run.specs.Keys.{IsPrivateFile, IsNoPrivateFile}
use Rattle.tl_run.specs.Signing.{seed_log_key}
use Rattle.tl_command.specs.Build.{RunsBuild}

-- the bytes are the text of a key that has this property
pub record IsPrivateFileWith (bytes : Bytes) (Fact : SeedKey → Type 0) : Type 0 where
  pub key : SeedKey
  pub file : IsPrivateFile note_kind bytes key
  pub fact : Fact key

-- a run with the bytes of a file: before anything is read it refuses bytes of no key, and a key with another name
-- than the log's. The key needs memory, too
abbrev pub RunsSigned : Bytes → Bytes → Option Bytes → Passage → Passage → Result (Unit {0}) RunFault → Type 0
RunsSigned origin bytes get i o (Err BadKeyFile) = IsNoPrivateFile note_kind bytes × IsUnread i × IsUnwritten o
RunsSigned origin bytes get i o (Err BadOrigin) = IsPrivateFileWith bytes (λ k. k.name ≢ origin) × IsUnread i × IsUnwritten o
RunsSigned origin bytes get i o (Err OutOfMemory) = IsPrivateFileWith bytes (λ k. IsSteady i × IsUnwritten o)
RunsSigned origin bytes get i o result = IsPrivateFileWith bytes (λ k. (k.name ≡ origin) × RunsBuild (seed_log_key k) get i o result)
