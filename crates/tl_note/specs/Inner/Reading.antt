-- The steps of reading a note.
use Rattle.std.specs.Prelude.{◌≡◌, ℕ, ◌<◌, ◌≤◌, List, ◌∷◌, ◌++◌, length, All}
use Rattle.std.specs.List.{flat_map}
use Rattle.tl_hash.specs.Bytes.{Bytes}
use Rattle.tl_note.specs.Note.{Signature, IsSignature, signature_words, signature_line, Note}

-- the bytes are the text, an empty line and the rest, and no other note has these bytes
pub record CutsText (bytes text rest : Bytes) : Type 0 where
  pub whole : bytes ≡ text ++ 10 ∷ rest
  pub only : (t : Bytes) (lines : List Signature) → Note bytes t lines → (t ≡ text) × (flat_map signature_line lines ≡ rest)

-- the bytes begin with this line
pub record CutsLine (bytes : Bytes) (first : Signature) (rest : Bytes) : Type 0 where
  pub lawful : IsSignature first
  pub whole : bytes ≡ signature_line first ++ rest

-- the text is no signature line
abbrev pub IsNoLine : Bytes → Type 0
IsNoLine text = (s : Signature) → IsSignature s → text ≡ signature_words s → ⊥

-- the bytes begin with no signature line
abbrev pub IsNoFirstLine : Bytes → Type 0
IsNoFirstLine bytes = (first : Signature) (rest : Bytes) → CutsLine bytes first rest → ⊥

-- the bytes are these lines, 1 to 100 of them
pub record AreSignatureLines (bytes : Bytes) (lines : List Signature) : Type 0 where
  pub each : All IsSignature lines
  pub some : 0 < length lines
  pub few : length lines ≤ 100
  pub whole : bytes ≡ flat_map signature_line lines

-- the bytes are this many lines
abbrev pub HasSignatureLines : Bytes → ℕ → Type 0
HasSignatureLines bytes count = (lines : List Signature) × AreSignatureLines bytes lines × (length lines ≡ count)

-- the bytes are not 1 to 100 lines
abbrev pub HasNoSignatureLines : Bytes → Type 0
HasNoSignatureLines bytes = (lines : List Signature) → AreSignatureLines bytes lines → ⊥
