-- The lines of a note that count, and those that are wrong (C2SP signed-note, "Verification"; Go's sumdb/note).
use Rattle.std.specs.Prelude.{◌≡◌, ℕ, ◌<◌, Bool, ◌&&◌, ◌||◌, not, List, length, map, filter, find, take, count_by, ◌==◌, nat_lt, bytes_eq, slice_get, false, Option, None, Some}
use Rattle.std.specs.List.{list_any, list_all, enumerate_from}
use Rattle.tl_hash.specs.Bytes.{Bytes}
use Rattle.tl_note.specs.Key.{Key}
use Rattle.tl_note.specs.Note.{Signature}

-- the line has this key
abbrev pub is_of : Signature → Key → Bool
is_of line key = bytes_eq line.name key.name && line.id == key.id

-- both lines have one key
abbrev pub is_same_key : Signature → Signature → Bool
is_same_key a b = bytes_eq a.name b.name && a.id == b.id

-- a line with its index, from 0
abbrev pub Placed : Type 0
Placed = ℕ × Signature

-- a verifier has the line's key
abbrev pub is_known : List Key → Placed → Bool
is_known keys p = list_any (is_of p.1) keys

-- an earlier line has the line's key
abbrev pub is_repeated : List Signature → Placed → Bool
is_repeated lines p = list_any (is_same_key p.1) (take p.0 lines)

-- the lines that count: a verifier has the key, and no earlier line has it
abbrev pub counts : List Key → List Signature → Placed → Bool
counts keys lines p = is_known keys p && not (is_repeated lines p)

abbrev pub counting_lines : List Key → List Signature → List Placed
counting_lines keys lines = filter (counts keys lines) (enumerate_from 0 lines)

-- the lines of keys that no verifier has
abbrev pub is_unknown : List Key → Placed → Bool
is_unknown keys p = not (is_known keys p)

abbrev pub unknown_lines : List Key → List Signature → List Placed
unknown_lines keys lines = filter (is_unknown keys) (enumerate_from 0 lines)

-- two verifiers have the line's key
abbrev pub is_ambiguous : List Key → Placed → Bool
is_ambiguous keys p = nat_lt 1 (count_by (is_of p.1) keys)

-- the line's verifier accepts its signature of the text
abbrev pub is_valid : List Key → Bytes → Placed → Bool
is_valid keys text p = list_all (λ key. key.accepts text p.1.bytes) (filter (is_of p.1) keys)

-- the first counting line that is wrong
abbrev pub is_wrong : List Key → Bytes → Placed → Bool
is_wrong keys text p = is_ambiguous keys p || not (is_valid keys text p)

abbrev pub first_wrong : List Key → Bytes → List Signature → Option Placed
first_wrong keys text lines = find (is_wrong keys text) (counting_lines keys lines)

-- the first wrong line is at this index, and is ambiguous or isn't
abbrev pub FindsWrong : List Key → Bytes → List Signature → ℕ → Bool → Type 0
FindsWrong keys text lines place ambiguous = (p : Placed) × (first_wrong keys text lines ≡ Some p) × (p.0 ≡ place) × (is_ambiguous keys p ≡ ambiguous)

-- the indexes of lines
abbrev pub places : List Placed → List ℕ
places lines = map (λ p. p.0) lines

-- verifying allocates: there is a first line, and not two verifiers have its key
abbrev pub NeedsMemory : List Key → List Signature → Type 0
NeedsMemory keys lines = (line : Signature) × (slice_get lines 0 ≡ Some line) × (is_ambiguous keys (0, line) ≡ false)

-- the note opens: some line counts, and none that counts is wrong
pub record Opened (keys : List Key) (text : Bytes) (lines : List Signature) : Type 0 where
  pub some : 0 < length (counting_lines keys lines)
  pub sound : first_wrong keys text lines ≡ None
