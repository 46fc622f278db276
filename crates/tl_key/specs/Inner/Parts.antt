-- The parts of a key's text.
use Rattle.std.specs.Prelude.{◌≡◌, ◌∷◌, ◌++◌, length}
use Rattle.base64.specs.GeneralPurpose.{IsBytes}
use Rattle.tl_hash.specs.Bytes.{Bytes}
use Rattle.tl_text.specs.Text.{base64_text}
use Rattle.tl_note.specs.Key.{IsKeyName}
use Rattle.tl_key.specs.KeyText.{key_text}

-- 33 bytes
pub record Are33Bytes (bytes : Bytes) : Type 0 where
  pub size : length bytes ≡ 33
  pub fit : IsBytes bytes

-- the text is base64 of these 33 bytes
pub record IsField (field bytes : Bytes) : Type 0 where
  pub fit : Are33Bytes bytes
  pub spelled : field ≡ base64_text bytes

-- after a name: eight digits and the field
pub record IsTail (rest digits bytes : Bytes) : Type 0 where
  pub eight : length digits ≡ 8
  pub fit : Are33Bytes bytes
  pub spelled : rest ≡ digits ++ 0x2B ∷ base64_text bytes

-- the text has these parts
pub record HasParts (text name digits bytes : Bytes) : Type 0 where
  pub name_is : IsKeyName name
  pub eight : length digits ≡ 8
  pub fit : Are33Bytes bytes
  pub spelled : text ≡ key_text name digits bytes

abbrev pub IsNoField : Bytes → Type 0
IsNoField field = (bytes : Bytes) → IsField field bytes → ⊥

abbrev pub IsNoTail : Bytes → Type 0
IsNoTail rest = (digits bytes : Bytes) → IsTail rest digits bytes → ⊥

abbrev pub HasNoParts : Bytes → Type 0
HasNoParts text = (name digits bytes : Bytes) → HasParts text name digits bytes → ⊥
