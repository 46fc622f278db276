-- Texts that are no line, no number or no hash.
use Rattle.std.specs.Prelude.{◌≢◌, ℕ, ◌++◌}
use Rattle.tl_hash.specs.Bytes.{Bytes, IsHash}
use Rattle.tl_text.specs.Text.{line, number_text, base64_text, HasNoControl, IsSize}

-- the text doesn't begin with a line
abbrev pub IsNoLine : Bytes → Type 0
IsNoLine text = (words rest : Bytes) → HasNoControl words → text ≢ line words ++ rest

-- no number below 2^63 has this text
abbrev pub IsNoSize : Bytes → Type 0
IsNoSize text = (n : ℕ) → IsSize n → text ≢ number_text n

-- no hash has this text
abbrev pub IsNoHash : Bytes → Type 0
IsNoHash text = (hash : Bytes) → IsHash hash → text ≢ base64_text hash
