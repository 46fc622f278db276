-- A list of logs, which the file of logs may be (`logs/v0`, the form of the public lists of logs).
use Rattle.std.specs.Prelude.{◌≡◌, ℕ, ◌+◌, ◌==◌, Bool, if◌then◌else◌, List, [], ◌∷◌, ◌++◌, map, Option, Some, None, IsUtf8, bytes_eq, codes}
use Rattle.std.specs.List.{after_first, before_first, slice_split}
use Rattle.std.specs.Option.{option_to_list}
use Rattle.tl_hash.specs.Bytes.{Bytes}
use Rattle.tl_text.specs.Text.{IsOneLine}
use Rattle.tl_key.specs.KeyText.{IsVerifierText}
use Rattle.tl_key.specs.NoteKey.{note_kind}
use Rattle.tl_logs.specs.LogsFile.{LogKey}

-- ---- lines

-- the lines of a file, which is cut at each newline; the last one is what follows the last newline
abbrev pub lines_of : Bytes → List Bytes
lines_of bytes = slice_split (λ byte. byte == 10) bytes

-- the file is a list: its first line is `logs/v0`
abbrev pub IsList : Bytes → Type 0
IsList bytes = (more : List Bytes) × (lines_of bytes ≡ codes "logs/v0" ∷ more)

-- the first word of a line, which ends at the first space
abbrev pub first_word : Bytes → Bytes
first_word words = before_first (λ byte. byte == 32) words

-- what follows that space
abbrev pub behind_word : Bytes → Bytes
behind_word words = after_first (λ byte. byte == 32) words

-- the line is `vkey KEY`
abbrev pub is_vkey : Bytes → Bool
is_vkey words = bytes_eq (first_word words) (codes "vkey")

-- the line is `origin NAME`
abbrev pub is_origin : Bytes → Bool
is_origin words = bytes_eq (first_word words) (codes "origin")

-- ---- logs

-- a log as a list says it: the number of the line that begins it, its key, and its name if a line gives it one
pub record Entry : Type 0 where
  pub number : ℕ
  pub key : Bytes
  pub name : Option Bytes

-- a line `vkey KEY` begins a log, which then waits for a name
abbrev pub begun : ℕ → Bytes → Entry
begun number key = record { number = number; key = key; name = None }

-- a line `origin NAME` names the log that waits; where none does, it begins one without a key
abbrev pub named : Option Entry → ℕ → Bytes → Entry
named (Some waiting) number name = record { number = waiting.number; key = waiting.key; name = Some name }
named None number name = record { number = number; key = []; name = Some name }

-- the log that ends with a line: a line `vkey KEY` ends the log that waits, and a line `origin NAME` ends the one that
-- it names
abbrev pub ended : Option Entry → ℕ → Bytes → Option Entry
ended waiting number words =
    if is_vkey words then waiting else if is_origin words then Some (named waiting number (behind_word words)) else None

-- the log that waits after a line: the one that a line `vkey KEY` begins, and none after a line `origin NAME`; any
-- other line changes nothing
abbrev pub opened : Option Entry → ℕ → Bytes → Option Entry
opened waiting number words =
    if is_vkey words then Some (begun number (behind_word words)) else if is_origin words then None else waiting

-- the logs of lines, the first of which has this number, if this log waits before them; one that waits after the last
-- line ends with it
abbrev pub entries_from : Option Entry → ℕ → List Bytes → List Entry
entries_from waiting number [] = option_to_list waiting
entries_from waiting number (words ∷ lines) =
    option_to_list (ended waiting number words) ++ entries_from (opened waiting number words) (number + 1) lines

-- the logs of a list, in the order in which they end; its lines are counted from 1
abbrev pub entries : Bytes → List Entry
entries bytes = entries_from None 1 (lines_of bytes)

-- ---- their keys

-- the key's name is the log's, unless a line gives it another, which may have spaces
abbrev pub IsNamed : Option Bytes → LogKey → Type 0
IsNamed None k = k.origin ≡ k.key.name
IsNamed (Some name) k = IsUtf8 name × IsOneLine name × (k.origin ≡ name)

-- the log has this key and this name
pub record IsLog (e : Entry) (k : LogKey) : Type 0 where
  pub utf8 : IsUtf8 e.key
  pub key : IsVerifierText note_kind e.key k.key
  pub named : IsNamed e.name k

-- a log of the list, and the key that it gives
pub record Listed : Type 0 where
  pub entry : Entry
  pub gives : LogKey

abbrev pub IsListed : Listed → Type 0
IsListed l = IsLog l.entry l.gives

abbrev pub entries_in : List Listed → List Entry
entries_in listed = map (λ l. l.entry) listed

abbrev pub given_in : List Listed → List LogKey
given_in listed = map (λ l. l.gives) listed
