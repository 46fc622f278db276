-- The texts of keys, as golang.org/x/mod/sumdb/note writes them (C2SP signed-note, "Verifier keys").
use Rattle.std.specs.Prelude.{◌≡◌, ℕ, ◌<◌, ◌∷◌, ◌++◌, length, codes, IsTrue}
use Rattle.std.specs.Int.{w32, to_be_bytes}
use Rattle.hex.specs.Hex.{encode_lower}
use Rattle.base64.specs.GeneralPurpose.{IsBytes}
use Rattle.tl_hash.specs.Bytes.{Bytes}
use Rattle.tl_text.specs.Text.{base64_text}
use Rattle.tl_ed25519.specs.Eddsa.{is_valid_public_key, public_key}
use Rattle.tl_note.specs.Key.{IsKeyName}
use Rattle.tl_key.specs.NoteKey.{PublicKey, SeedKey, key_id}

-- a number below 2^32 in eight hexadecimal digits, lower case
abbrev pub hex8 : ℕ → Bytes
hex8 n = encode_lower (to_be_bytes w32 n)

-- a name, eight digits, and bytes in base64, with plus signs (0x2B) between
abbrev pub key_text : Bytes → Bytes → Bytes → Bytes
key_text name digits bytes = name ++ 0x2B ∷ (digits ++ 0x2B ∷ base64_text bytes)

-- <name>+<identifier>+<base64 of the type and the public key>
abbrev pub verifier_text : PublicKey → Bytes
verifier_text k = key_text k.name (hex8 (key_id k.name k.kind k.key)) (k.kind ∷ k.key)

-- PRIVATE+KEY+<name>+<identifier>+<base64 of the type and the seed>
abbrev pub private_text : SeedKey → Bytes
private_text k = codes "PRIVATE+KEY+" ++ key_text k.name (hex8 (key_id k.name k.kind (public_key k.seed))) (k.kind ∷ k.seed)

-- 32 bytes
pub record Are32Bytes (bytes : Bytes) : Type 0 where
  pub size : length bytes ≡ 32
  pub fit : IsBytes bytes

-- the text is that of this verifier's key, which is of the type asked for; its public key is the canonical encoding
-- of a point that isn't of small order
pub record IsVerifierText (kind : ℕ) (text : Bytes) (k : PublicKey) : Type 0 where
  pub name : IsKeyName k.name
  pub kind_asked : k.kind ≡ kind
  pub byte : k.kind < 256
  pub key : Are32Bytes k.key
  pub sound : IsTrue (is_valid_public_key k.key)
  pub spelled : text ≡ verifier_text k

-- the text is that of this signer's key, which is of the type asked for
pub record IsSignerText (kind : ℕ) (text : Bytes) (k : SeedKey) : Type 0 where
  pub name : IsKeyName k.name
  pub kind_asked : k.kind ≡ kind
  pub byte : k.kind < 256
  pub seed : Are32Bytes k.seed
  pub spelled : text ≡ private_text k
