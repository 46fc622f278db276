-- The keys of a log, demonstration keys or Ed25519 keys.
use Rattle.tl_note.specs.Key.{Key, SigningKey}
use Rattle.tl_key.specs.DemoKey.{demo_signing_key, demo_verifier_key}
use Rattle.tl_key.specs.NoteKey.{signer_key, verifier_key}
use Rattle.tl_run.specs.Signing.{LogKey, demo_log_key, seed_log_key}
use Rattle.tl_append.specs.declared.keys.LogSigningKey.{LogSigningKey}
use Rattle.tl_append.specs.declared.keys.LogSigningKey.TheVariants as signing
use Rattle.tl_append.specs.declared.keys.LogOpeningKey.{LogOpeningKey}
use Rattle.tl_append.specs.declared.keys.LogOpeningKey.TheVariants as opening

-- the key as which it signs notes
abbrev pub signing_key_of : LogSigningKey → SigningKey
signing_key_of (signing.Demonstration k) = demo_signing_key k
signing_key_of (signing.Private k) = signer_key k

-- the log's key as which it signs checkpoints
abbrev pub log_key_of : LogSigningKey → LogKey
log_key_of (signing.Demonstration k) = demo_log_key k
log_key_of (signing.Private k) = seed_log_key k

-- the key as which it opens notes
abbrev pub opening_key_of : LogOpeningKey → Key
opening_key_of (opening.Demonstration k) = demo_verifier_key k
opening_key_of (opening.Public k) = verifier_key k
