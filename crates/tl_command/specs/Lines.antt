-- The entries of an input are its lines.
use Rattle.std.specs.Prelude.{◌≢◌, ℕ, ◌==◌, nat_lt, List, [], ◌∷◌, length, position, All, Bool, Option}
use Rattle.std.specs.List.{flat_map, slice_split}
use Rattle.tl_hash.specs.Bytes.{Bytes}
use Rattle.tl_text.specs.Text.{line}
use Rattle.tl_tile.specs.Bundle.{most_entry}

-- the pieces without the last one, if that is empty
abbrev pub without_empty_last : List Bytes → List Bytes
without_empty_last [] = []
without_empty_last ([] ∷ []) = []
without_empty_last ((byte ∷ piece) ∷ []) = (byte ∷ piece) ∷ []
without_empty_last (piece ∷ next ∷ more) = piece ∷ without_empty_last (next ∷ more)

-- the entry has more bytes than an entry bundle can hold (C2SP tlog-tiles, "Log entries")
abbrev pub is_too_long : Bytes → Bool
is_too_long entry = nat_lt most_entry (length entry)

-- the input is cut at each newline; what follows the last newline is an entry if it isn't empty
unfoldable pub entries_of : Bytes → List Bytes
entries_of input = without_empty_last (slice_split (λ byte. byte == 10) input)

-- the index of the first entry that is too long
abbrev pub first_too_long : List Bytes → Option ℕ
first_too_long entries = position is_too_long entries

-- a line's text has no newline
abbrev pub HasNoNewline : Bytes → Type 0
HasNoNewline text = All (λ byte. byte ≢ 10) text

-- lines, each ended by its newline
abbrev pub lines_text : List Bytes → Bytes
lines_text lines = flat_map line lines
