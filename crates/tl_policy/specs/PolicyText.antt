-- The lines of a policy's text, and their words (C2SP tlog-policy).
use Rattle.std.specs.Prelude.{◌≡◌, ℕ, ◌≤◌, ◌==◌, ◌||◌, Bool, List, [], ◌∷◌, length, filter, nat_lt, bytes_eq, MatchBool, codes, Option, None, Some}
use Rattle.std.specs.List.{slice_split}
use Rattle.tl_hash.specs.Bytes.{Bytes}
use Rattle.tl_text.specs.Text.{number_text}

-- what stands between newlines
abbrev pub lines_of : Bytes → List Bytes
lines_of text = slice_split (λ byte. byte == 10) text

-- a space or a tab
abbrev pub is_blank : ℕ → Bool
is_blank byte = byte == 32 || byte == 9

-- what stands between spaces and tabs
abbrev pub words_of : Bytes → List Bytes
words_of line = filter (λ word. nat_lt 0 (length word)) (slice_split is_blank line)

-- a key's text, and a URL or none
abbrev pub key_words : List Bytes → Option (Bytes × Option Bytes)
key_words (key ∷ []) = Some (key, None)
key_words (key ∷ url ∷ []) = Some (key, Some url)
key_words _ = None

-- the number that a word gives of this many members: `any` is 1, `all` is each of them, and others are in decimal
abbrev pub GivesNumber : Bytes → ℕ → ℕ → Type 0
GivesNumber word members number =
    MatchBool (bytes_eq word (codes "any")) (number ≡ 1) (MatchBool (bytes_eq word (codes "all")) (number ≡ members) (word ≡ number_text number))

-- a group's threshold, of this many members
pub record IsThreshold (word : Bytes) (members threshold : ℕ) : Type 0 where
  pub given : GivesNumber word members threshold
  pub some : 1 ≤ threshold
  pub fits : threshold ≤ members
