-- Notes: a text and signature lines (C2SP signed-note, "Format").
use Rattle.std.specs.Prelude.{◌≡◌, ℕ, ◌<◌, ◌≤◌, ◌⊎◌, ◌^◌, List, [], ◌∷◌, ◌++◌, length, All, IsUtf8}
use Rattle.std.specs.List.{flat_map}
use Rattle.std.specs.Int.{w32, to_be_bytes}
use Rattle.base64.specs.GeneralPurpose.{IsBytes}
use Rattle.tl_hash.specs.Bytes.{Bytes}
use Rattle.tl_text.specs.Text.{line, base64_text}
use Rattle.tl_note.specs.Key.{IsKeyName}

-- a signature: the name and identifier of a key, and the bytes of the signature
pub record Signature : Type 0 where
  pub name : Bytes
  pub id : ℕ
  pub bytes : Bytes

-- a signature that a line can have
pub record IsSignature (s : Signature) : Type 0 where
  pub name : IsKeyName s.name
  pub id : s.id < 2 ^ 32
  pub some : 0 < length s.bytes
  pub bytes : IsBytes s.bytes

-- the field of a signature: base64 of the identifier, four bytes, big-endian, and the signature
abbrev pub signature_field : Signature → Bytes
signature_field s = base64_text (to_be_bytes w32 s.id ++ s.bytes)

-- the words of a signature line: an em dash (U+2014), the name and the field, with spaces between
abbrev pub signature_words : Signature → Bytes
signature_words s = (0xE2 ∷ 0x80 ∷ 0x94 ∷ 32 ∷ []) ++ s.name ++ 32 ∷ signature_field s

-- the words, and a newline
abbrev pub signature_line : Signature → Bytes
signature_line s = line (signature_words s)

-- a byte of a note: of no control character except newline
abbrev pub IsNoteByte : ℕ → Type 0
IsNoteByte byte = (32 ≤ byte) ⊎ (byte ≡ 10)

-- a text that can be signed: UTF-8 that ends with a newline and has no other control character
pub record IsNoteText (text : Bytes) : Type 0 where
  pub utf8 : IsUtf8 text
  pub plain : All IsNoteByte text
  pub front : Bytes
  pub ended : text ≡ front ++ 10 ∷ []

-- the text, an empty line, the signature lines
abbrev pub note_bytes : Bytes → List Signature → Bytes
note_bytes text lines = text ++ 10 ∷ flat_map signature_line lines

-- the bytes are the note of this text and these lines, 1 to 100 of them
pub record Note (bytes text : Bytes) (lines : List Signature) : Type 0 where
  pub readable : IsNoteText text
  pub each : All IsSignature lines
  pub some : 0 < length lines
  pub few : length lines ≤ 100
  pub spelled : bytes ≡ note_bytes text lines

-- the bytes are a note
abbrev pub IsNote : Bytes → Type 0
IsNote bytes = (text : Bytes) × (lines : List Signature) × Note bytes text lines

-- the bytes are no note
abbrev pub HasNoNote : Bytes → Type 0
HasNoNote bytes = (text : Bytes) (lines : List Signature) → Note bytes text lines → ⊥
