-- A key for demonstrations: it signs with HMAC under a secret that its verifier has too.
use Rattle.std.specs.Prelude.{ℕ, false, ◌∷◌, ◌++◌, take, bytes_eq, codes}
use Rattle.std.specs.Int.{w32, from_be_bytes}
use Rattle.sha2.specs.Sha256.{sha256}
use Rattle.tl_hash.specs.Bytes.{Bytes}
use Rattle.tl_key.specs.Hmac.{hmac}
use Rattle.tl_note.specs.Key.{Key, SigningKey}

-- the first four bytes of a digest of the key's name, its kind and its secret's digest
abbrev pub demo_id : Bytes → Bytes → ℕ
demo_id name secret = from_be_bytes w32 (take 4 (sha256 (name ++ (0x0A ∷ 0xFF ∷ codes "tlog-demo-hmac-sha256") ++ sha256 secret)))

-- a demonstration key
pub record Demo : Type 0 where
  pub name : Bytes
  pub secret : Bytes

-- the signing key: it gives one signature of a message, and refuses none
abbrev pub demo_signing_key : Demo → SigningKey
demo_signing_key k = record { name = k.name; id = demo_id k.name k.secret; may_give = λ message signature. bytes_eq signature (hmac k.secret message); may_refuse = λ message. false }

-- the verifying key: it accepts exactly that signature
abbrev pub demo_verifier_key : Demo → Key
demo_verifier_key k = record { name = k.name; id = demo_id k.name k.secret; accepts = λ message signature. bytes_eq signature (hmac k.secret message) }
