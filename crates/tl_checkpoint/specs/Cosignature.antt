-- The message that a witness signs, and its signature line (C2SP tlog-cosignature, "Format", version 1).
use Rattle.std.specs.Prelude.{◌≡◌, ℕ, ◌<◌, ◌^◌, ◌++◌, length, codes, IsTrue, Option, Some, None, Result, Ok, Err, String, string_bytes}
use Rattle.std.specs.Int.{w64, to_be_bytes}
use Rattle.tl_hash.specs.Bytes.{Bytes}
use Rattle.tl_text.specs.Text.{line, number_text}
use Rattle.tl_note.specs.Key.{Key, SigningKey, MayGiveNone, IsKeyName}
use Rattle.tl_note.specs.Note.{Signature, signature_line}
use Rattle.tl_note.specs.declared.fault.NoteFault.{NoteFault}
use Rattle.tl_note.specs.declared.fault.NoteFault.TheVariants.{Malformed, BadName, Ambiguous, InvalidSignature, Unverified, Sign, OutOfMemory}

-- the message: the version, the time in seconds, the checkpoint's text
abbrev pub cosigned_message : ℕ → Bytes → Bytes
cosigned_message time text = line (codes "cosignature/v1") ++ line (codes "time " ++ number_text time) ++ text

-- the bytes of the signature after the key's identifier: the time, eight bytes, big-endian, and the signature of the
-- message
abbrev pub cosignature : ℕ → Bytes → Bytes
cosignature time signature = to_be_bytes w64 time ++ signature

-- the line is this signer's cosignature of the text at this time
pub record Cosigns (text : Bytes) (time : ℕ) (key : SigningKey) (words : Bytes) : Type 0 where
  pub signature : Bytes
  pub given : IsTrue (key.may_give (cosigned_message time text) signature)
  pub some : 0 < length signature
  pub named : IsKeyName key.name
  pub spelled : words ≡ signature_line (record { name = key.name; id = key.id; bytes = cosignature time signature })

-- the signer may refuse the message, or give no bytes for it
abbrev pub MayFailToCosign : Bytes → ℕ → SigningKey → Type 0
MayFailToCosign text time key = MayGiveNone key (cosigned_message time text)

-- writing a cosignature line; the index of its only signer is 0
abbrev pub CosignsLine : {A : Type 0} → Bytes → ℕ → SigningKey → Result (String A) NoteFault → Type 0
CosignsLine text time key (Ok words) = Cosigns text time key (string_bytes words)
CosignsLine text time key (Err Malformed) = ⊥
CosignsLine text time key (Err (BadName place)) = (place ≡ 0) × (IsKeyName key.name → ⊥)
CosignsLine text time key (Err (Ambiguous place)) = ⊥
CosignsLine text time key (Err (InvalidSignature place)) = ⊥
CosignsLine text time key (Err Unverified) = ⊥
CosignsLine text time key (Err (Sign place)) = (place ≡ 0) × IsKeyName key.name × MayFailToCosign text time key
CosignsLine text time key (Err OutOfMemory) = IsKeyName key.name

-- the line has this key's name and identifier
pub record IsOfKey (key : Key) (line : Signature) : Type 0 where
  pub name : line.name ≡ key.name
  pub id : line.id ≡ key.id

-- the line is this key's cosignature of the text at this time
pub record IsCosignature (text : Bytes) (key : Key) (line : Signature) (time : ℕ) : Type 0 where
  pub name : line.name ≡ key.name
  pub id : line.id ≡ key.id
  pub range : time < 2 ^ 64
  pub signature : Bytes
  pub bytes : line.bytes ≡ cosignature time signature
  pub accepted : IsTrue (key.accepts (cosigned_message time text) signature)

-- the time of a cosignature, or that the line is none
abbrev pub ChecksCosignature : Bytes → Key → Signature → Option ℕ → Type 0
ChecksCosignature text key line (Some time) = IsCosignature text key line time
ChecksCosignature text key line None = (time : ℕ) → IsCosignature text key line time → ⊥
