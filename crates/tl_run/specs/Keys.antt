-- Keys that options name: the text of a verifier key, and a file with the text of a private key (C2SP signed-note,
-- "Verifier keys"; golang.org/x/mod/sumdb/note).
use Rattle.std.specs.Prelude.{◌≡◌, ◌≢◌, ◌⊎◌, ℕ, IsUtf8, Result, Ok, Err}
use Rattle.std.specs.declared.vec.Vec.{Vec}
use Rattle.tl_hash.specs.Bytes.{Bytes}
use Rattle.tl_text.specs.Text.{line}
use Rattle.tl_key.specs.KeyText.{IsSignerText, IsVerifierText}
use Rattle.tl_key.specs.NoteKey.{PublicKey, SeedKey, note_kind}
use Rattle.tl_run.specs.declared.fault.RunFault.{RunFault}
use Rattle.tl_run.specs.declared.fault.RunFault.TheVariants.{Device, BadKey, BadKeyFile, OutOfMemory}
use Rattle.tl_run.specs.declared.place.Place.TheVariants.{File}

-- the text is that of no verifier key of a log
abbrev pub IsNoKey : Bytes → Type 0
IsNoKey text = (k : PublicKey) → IsVerifierText note_kind text k → ⊥

-- reading the key whose text this is
abbrev pub ReadsKey : Bytes → Result PublicKey RunFault → Type 0
ReadsKey text (Ok k) = IsVerifierText note_kind text k
ReadsKey text (Err BadKey) = IsNoKey text
ReadsKey text (Err OutOfMemory) = (k : PublicKey) × IsVerifierText note_kind text k
ReadsKey text (Err fault) = ⊥

-- the text is the bytes without a newline at their end
abbrev pub IsTextOf : Bytes → Bytes → Type 0
IsTextOf bytes text = (bytes ≡ line text) ⊎ ((bytes ≡ text) × ((front : Bytes) → bytes ≢ line front))

-- the bytes of a file are the text of this key, which has this type
pub record IsPrivateFile (kind : ℕ) (bytes : Bytes) (k : SeedKey) : Type 0 where
  pub text : Bytes
  pub is : IsTextOf bytes text
  pub of : IsSignerText kind text k

-- the bytes are no text, or that of no such key
abbrev pub IsNoPrivateFile : ℕ → Bytes → Type 0
IsNoPrivateFile kind bytes = ¬ (IsUtf8 bytes) ⊎ ((k : SeedKey) → IsPrivateFile kind bytes k → ⊥)

-- reading the key whose text the bytes of a file are
abbrev pub ReadsPrivate : ℕ → Bytes → Result SeedKey RunFault → Type 0
ReadsPrivate kind bytes (Ok k) = IsPrivateFile kind bytes k
ReadsPrivate kind bytes (Err BadKeyFile) = IsNoPrivateFile kind bytes
ReadsPrivate kind bytes (Err OutOfMemory) = (k : SeedKey) × IsPrivateFile kind bytes k
ReadsPrivate kind bytes (Err fault) = ⊥

-- the only reasons for which a file can't be read
abbrev pub IsFileFault : RunFault → Type 0
IsFileFault (Device File fault) = Unit {0}
IsFileFault OutOfMemory = Unit {0}
IsFileFault fault = ⊥

-- reading a file: its bytes, whatever they are, or why it can't be read
abbrev pub ReadsFile : {A : Type 0} → Result (Vec ℕ A) RunFault → Type 0
ReadsFile (Ok bytes) = Unit {0}
ReadsFile (Err fault) = IsFileFault fault
