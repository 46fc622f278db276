-- Ed25519 keys of notes (C2SP signed-note, "Signature types").
use Rattle.std.specs.Prelude.{◌≡◌, ℕ, Bool, false, ◌==◌, ◌&&◌, ◌∷◌, ◌++◌, length, take, bytes_eq}
use Rattle.std.specs.Int.{w32, from_be_bytes}
use Rattle.sha2.specs.Sha256.{sha256}
use Rattle.tl_hash.specs.Bytes.{Bytes}
use Rattle.tl_ed25519.specs.Eddsa.{accepts, public_key, sign}
use Rattle.tl_note.specs.Key.{Key, SigningKey, IsKeyName}

-- the type of Ed25519 keys that sign notes, and of those that cosign checkpoints
abbrev pub note_kind : ℕ
note_kind = 0x01

abbrev pub cosignature_kind : ℕ
cosignature_kind = 0x04

-- a verifier's key: its name, its type and its public key
pub record PublicKey : Type 0 where
  pub name : Bytes
  pub kind : ℕ
  pub key : Bytes

-- a signer's key: its name, its type and its seed
pub record SeedKey : Type 0 where
  pub name : Bytes
  pub kind : ℕ
  pub seed : Bytes

-- the identifier: the first four bytes, big-endian, of the digest of the name, a newline, the type and the public key
abbrev pub key_id : Bytes → ℕ → Bytes → ℕ
key_id name kind key = from_be_bytes w32 (take 4 (sha256 (name ++ (0x0A ∷ kind ∷ key))))

-- what an object keeps of its key: the name of a key, and the identifier of the key
pub record IsKept (name : Bytes) (kind : ℕ) (key : Bytes) (id : ℕ) : Type 0 where
  pub lawful : IsKeyName name
  pub id_is : id ≡ key_id name kind key

-- 64 bytes that are a valid signature of the message (RFC 8032, section 5.1.7)
abbrev pub is_valid : Bytes → Bytes → Bytes → Bool
is_valid key message signature = length signature == 64 && accepts key message signature

-- what a verifier's key accepts
abbrev pub verifier_key : PublicKey → Key
verifier_key k = record { name = k.name; id = key_id k.name k.kind k.key; accepts = is_valid k.key }

-- the signing key of a signer's key: it gives one signature of a message (RFC 8032, section 5.1.6), and refuses none
abbrev pub signer_key : SeedKey → SigningKey
signer_key k = record { name = k.name; id = key_id k.name k.kind (public_key k.seed); may_give = λ message signature. bytes_eq signature (sign k.seed message); may_refuse = λ message. false }

-- the verifier's key for a signer's key
abbrev pub public_of : SeedKey → PublicKey
public_of k = record { name = k.name; kind = k.kind; key = public_key k.seed }
