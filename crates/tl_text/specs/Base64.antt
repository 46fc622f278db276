-- Texts in padded base64 (RFC 4648, section 4).
use Rattle.std.specs.Prelude.{◌≡◌, ℕ, length, take}
use Rattle.base64.specs.GeneralPurpose.{IsBytes}
use Rattle.tl_hash.specs.Bytes.{Bytes}
use Rattle.tl_text.specs.Text.{base64_text}

-- the text is base64 of these bytes
pub record IsSpelled (text bytes : Bytes) : Type 0 where
  pub fit : IsBytes bytes
  pub spelled : text ≡ base64_text bytes

-- the text is base64 of the first `count` of these bytes
pub record IsRead (text : Bytes) (count : ℕ) (bytes : Bytes) : Type 0 where
  pub spelled : IsSpelled text (take count bytes)
  pub counted : length (take count bytes) ≡ count

-- the text is base64 of some bytes
abbrev pub IsBase64 : Bytes → Type 0
IsBase64 text = (bytes : Bytes) × IsSpelled text bytes

-- the text isn't base64 of any bytes
abbrev pub IsNoBase64 : Bytes → Type 0
IsNoBase64 text = (bytes : Bytes) → IsSpelled text bytes → ⊥
