-- What a signature line shows, read from its texts (C2SP signed-note, "Format").
use Rattle.std.specs.Prelude.{◌≡◌, ℕ, drop}
use Rattle.base64.specs.GeneralPurpose.{decoded_bytes_of}
use Rattle.base64.specs.Engines.{standard}
use Rattle.tl_hash.specs.Bytes.{Bytes}
use Rattle.tl_note.specs.Note.{Signature, IsSignature, signature_field}

-- the bytes in a field, after the identifier
abbrev pub field_signature : Bytes → Bytes
field_signature field = drop 4 (decoded_bytes_of standard field)

-- the signature that a line with this name, identifier and field shows
abbrev pub shown : Bytes → ℕ → Bytes → Signature
shown name id field = record { name = name; id = id; bytes = field_signature field }

-- the line is well formed
pub record ShowsLine (name : Bytes) (id : ℕ) (field : Bytes) : Type 0 where
  pub lawful : IsSignature (shown name id field)
  pub spelled : field ≡ signature_field (shown name id field)
