-- What making a key and reading its text return.
use Rattle.std.specs.Prelude.{◌≡◌, ℕ, true, false, Result, Ok, Err}
use Rattle.tl_hash.specs.Bytes.{Bytes}
use Rattle.tl_ed25519.specs.Eddsa.{is_valid_public_key}
use Rattle.tl_note.specs.Key.{IsKeyName}
use Rattle.tl_key.specs.declared.fault.KeyFault.{KeyFault}
use Rattle.tl_key.specs.declared.fault.KeyFault.TheVariants.{Malformed, BadName, Unsound, OutOfMemory}
use Rattle.tl_key.specs.NoteKey.{PublicKey, SeedKey}
use Rattle.tl_key.specs.KeyText.{IsVerifierText, IsSignerText}

-- no such key has this text
abbrev pub IsNoVerifierText : ℕ → Bytes → Type 0
IsNoVerifierText kind text = (k : PublicKey) → IsVerifierText kind text k → ⊥

abbrev pub IsNoSignerText : ℕ → Bytes → Type 0
IsNoSignerText kind text = (k : SeedKey) → IsSignerText kind text k → ⊥

-- the key that has this text, or that there is none; memory is allocated only if there is one
abbrev pub ReadsVerifier : ℕ → Bytes → Result PublicKey KeyFault → Type 0
ReadsVerifier kind text (Ok k) = IsVerifierText kind text k
ReadsVerifier kind text (Err Malformed) = IsNoVerifierText kind text
ReadsVerifier kind text (Err BadName) = ⊥
ReadsVerifier kind text (Err Unsound) = ⊥
ReadsVerifier kind text (Err OutOfMemory) = (k : PublicKey) × IsVerifierText kind text k

abbrev pub ReadsSigner : ℕ → Bytes → Result SeedKey KeyFault → Type 0
ReadsSigner kind text (Ok k) = IsSignerText kind text k
ReadsSigner kind text (Err Malformed) = IsNoSignerText kind text
ReadsSigner kind text (Err BadName) = ⊥
ReadsSigner kind text (Err Unsound) = ⊥
ReadsSigner kind text (Err OutOfMemory) = (k : SeedKey) × IsSignerText kind text k

-- the key that was asked for; the name is checked before the public key, and both before memory is allocated
abbrev pub MakesVerifier : PublicKey → Result PublicKey KeyFault → Type 0
MakesVerifier wanted (Ok k) = (k ≡ wanted) × IsKeyName wanted.name × (is_valid_public_key wanted.key ≡ true)
MakesVerifier wanted (Err Malformed) = ⊥
MakesVerifier wanted (Err BadName) = IsKeyName wanted.name → ⊥
MakesVerifier wanted (Err Unsound) = IsKeyName wanted.name × (is_valid_public_key wanted.key ≡ false)
MakesVerifier wanted (Err OutOfMemory) = IsKeyName wanted.name × (is_valid_public_key wanted.key ≡ true)

abbrev pub MakesSigner : SeedKey → Result SeedKey KeyFault → Type 0
MakesSigner wanted (Ok k) = (k ≡ wanted) × IsKeyName wanted.name
MakesSigner wanted (Err Malformed) = ⊥
MakesSigner wanted (Err BadName) = IsKeyName wanted.name → ⊥
MakesSigner wanted (Err Unsound) = ⊥
MakesSigner wanted (Err OutOfMemory) = IsKeyName wanted.name
