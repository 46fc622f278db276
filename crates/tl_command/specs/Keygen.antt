-- The command `keygen`: a new key (C2SP signed-note, "Verifier keys").
use Rattle.std.specs.Prelude.{◌≡◌, ◌⊎◌, ℕ, Result, Ok, Err}
use Rattle.tl_hash.specs.Bytes.{Bytes}
use Rattle.tl_text.specs.Text.{line}
use Rattle.tl_note.specs.Key.{IsKeyName}
use Rattle.tl_key.specs.NoteKey.{SeedKey, public_of}
use Rattle.tl_key.specs.KeyText.{Are32Bytes, private_text, verifier_text}
use Rattle.tl_device.specs.Device.{Passage, IsUnwritten, WroteWhole, WrotePart}
use Rattle.tl_run.specs.declared.fault.RunFault.{RunFault}
use Rattle.tl_run.specs.declared.fault.RunFault.TheVariants.{Read, Write, BadName, OutOfMemory}

-- a key of this name and type
pub record IsKeyOf (name : Bytes) (kind : ℕ) (k : SeedKey) : Type 0 where
  pub lawful : IsKeyName name
  pub name_is : k.name ≡ name
  pub kind_is : k.kind ≡ kind
  pub seed : Are32Bytes k.seed

-- the private key's text was written to standard output, and the verifier key's text to standard error
pub record GaveKey (name : Bytes) (kind : ℕ) (o e : Passage) : Type 0 where
  pub key : SeedKey
  pub of : IsKeyOf name kind key
  pub private : WroteWhole o (line (private_text key))
  pub verifier : WroteWhole e (line (verifier_text (public_of key)))

-- writing to standard error failed first, or to standard output after it
pub record GaveSomeKey (name : Bytes) (kind : ℕ) (o e : Passage) : Type 0 where
  pub key : SeedKey
  pub of : IsKeyOf name kind key
  pub part : (WrotePart e (line (verifier_text (public_of key))) × IsUnwritten o) ⊎ (WroteWhole e (line (verifier_text (public_of key))) × WrotePart o (line (private_text key)))

-- nothing was written
abbrev pub IsSilent : Passage → Passage → Type 0
IsSilent o e = IsUnwritten o × IsUnwritten e

-- a run of `keygen`: `o` is standard output, `e` standard error
abbrev pub GivesKey : Bytes → ℕ → Passage → Passage → Result (Unit {0}) RunFault → Type 0
GivesKey name kind o e (Ok done) = GaveKey name kind o e
GivesKey name kind o e (Err Write) = GaveSomeKey name kind o e
GivesKey name kind o e (Err BadName) = ¬ (IsKeyName name) × IsSilent o e
GivesKey name kind o e (Err Read) = IsSilent o e
GivesKey name kind o e (Err OutOfMemory) = IsKeyName name × IsSilent o e
GivesKey name kind o e (Err fault) = ⊥
