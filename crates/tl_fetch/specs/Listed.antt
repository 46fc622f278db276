-- How the entries of a log are listed, so that the end of each shows.
use Rattle.std.specs.Prelude.{List, [], ◌∷◌, ◌++◌, ◌==◌, ◌||◌, Bool, false, if◌then◌else◌, length}
use Rattle.std.specs.List.{flat_map, list_any}
use Rattle.tl_hash.specs.Bytes.{Bytes}
use Rattle.tl_text.specs.Text.{line, number_text}

-- the entry begins with a backslash, as the line of a length does
abbrev pub begins_with_backslash : Bytes → Bool
begins_with_backslash [] = false
begins_with_backslash (byte ∷ rest) = byte == 92

-- the entry's end wouldn't show, or it could be taken for a length: it has a newline, or begins with a backslash
abbrev pub needs_length : Bytes → Bool
needs_length entry = begins_with_backslash entry || list_any (λ byte. byte == 10) entry

-- a line with a backslash and the entry's length in bytes, if the entry needs it
abbrev pub length_line : Bytes → Bytes
length_line entry = if needs_length entry then line (92 ∷ number_text (length entry)) else []

-- an entry as a line, after the line of its length
abbrev pub listed : Bytes → Bytes
listed entry = length_line entry ++ line entry

-- entries, one after the other
abbrev pub listed_text : List Bytes → Bytes
listed_text entries = flat_map listed entries
