-- The key of a log, and the signed note of its checkpoint (C2SP tlog-checkpoint, signed-note).
use Rattle.std.specs.Prelude.{List, [], ◌∷◌}
use Rattle.tl_hash.specs.Bytes.{Bytes}
use Rattle.tl_note.specs.Note.{Signature, note_bytes}
use Rattle.tl_key.specs.Hmac.{hmac}
use Rattle.tl_key.specs.DemoKey.{Demo, demo_id}
use Rattle.tl_key.specs.NoteKey.{SeedKey, key_id}
use Rattle.tl_ed25519.specs.Eddsa.{public_key, sign}
use Rattle.tl_log.specs.Checkpoints.{text_of_log}

-- a log's key: it has the log's name, and one signature of each message
pub record LogKey : Type 0 where
  pub name : Bytes
  pub signature : Bytes → Signature

-- the demonstration key of an origin and a secret
abbrev pub demo_log_key : Demo → LogKey
demo_log_key k = record { name = k.name; signature = λ message. record { name = k.name; id = demo_id k.name k.secret; bytes = hmac k.secret message } }

-- an Ed25519 key (C2SP signed-note, "Signature types")
abbrev pub seed_log_key : SeedKey → LogKey
seed_log_key k = record { name = k.name; signature = λ message. record { name = k.name; id = key_id k.name k.kind (public_key k.seed); bytes = sign k.seed message } }

-- the checkpoint of the log of these entries as a note (C2SP tlog-checkpoint, signed-note), signed by the log's key
abbrev pub checkpoint_note : LogKey → List Bytes → Bytes
checkpoint_note key entries = note_bytes (text_of_log key.name entries) (key.signature (text_of_log key.name entries) ∷ [])
