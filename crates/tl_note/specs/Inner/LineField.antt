-- The field of a signature line: base64 of an identifier and a signature.
use Rattle.std.specs.Prelude.{◌≡◌, ℕ, ◌<◌, ◌^◌, ◌++◌, length}
use Rattle.std.specs.Int.{w32, to_be_bytes}
use Rattle.base64.specs.GeneralPurpose.{IsBytes}
use Rattle.tl_hash.specs.Bytes.{Bytes}
use Rattle.tl_text.specs.Text.{base64_text}
use Rattle.tl_note.specs.Note.{Signature, IsSignature, signature_field}
use Rattle.tl_note.specs.Line.{field_signature}

-- the field is that of this identifier, and of at least one byte more
pub record ShowsField (id : ℕ) (field : Bytes) : Type 0 where
  pub range : id < 2 ^ 32
  pub some : 0 < length (field_signature field)
  pub bytes : IsBytes (field_signature field)
  pub spelled : field ≡ base64_text (to_be_bytes w32 id ++ field_signature field)

-- the text is no field
abbrev pub IsNoField : Bytes → Type 0
IsNoField field = (s : Signature) → IsSignature s → field ≡ signature_field s → ⊥
