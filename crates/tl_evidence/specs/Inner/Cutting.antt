-- Where a note ends that other lines follow (C2SP signed-note, "Format").
use Rattle.std.specs.Prelude.{ℕ, ◌+◌, ◌==◌, suc, Bool, not, List, [], ◌∷◌, length, drop}
use Rattle.std.specs.List.{list_any, position_or_len}
use Rattle.tl_hash.specs.Bytes.{Bytes}

-- how many lines stand before the first empty one
abbrev pub text_length : List Bytes → ℕ
text_length lines = position_or_len (λ line. length line == 0) lines

-- a signature line has a space; neither a key's name nor the first line of a proof has one
abbrev pub has_space : Bytes → Bool
has_space line = list_any (λ byte. byte == 32) line

-- how many lines stand before the first one without a space
abbrev pub signature_length : List Bytes → ℕ
signature_length lines = position_or_len (λ line. not (has_space line)) lines

-- the empty line, and the signature lines after it
abbrev pub signed_length : List Bytes → ℕ
signed_length [] = 0
signed_length (line ∷ lines) = suc (signature_length lines)

-- how many lines the note at the front has: its text, an empty line, and signatures
abbrev pub note_length : List Bytes → ℕ
note_length lines = text_length lines + signed_length (drop (text_length lines) lines)
