-- The lines of an input, and those still to come of an input that is being read.
use Rattle.std.specs.Prelude.{◌≡◌, ◌≢◌, ◌≤◌, ◌⊎◌, ℕ, ◌+◌, ◌-◌, ◌^◌, min, ◌==◌, nat_lt, Bool, true, false, if◌then◌else◌, List, [], ◌∷◌, ◌++◌, length, drop, count_by, All}
use Rattle.std.specs.List.{flat_map, slice_split}
use Rattle.tl_hash.specs.Bytes.{Bytes}

-- bytes without a newline
abbrev pub HasNoNewline : Bytes → Type 0
HasNoNewline bytes = All (λ byte. byte ≢ 10) bytes

-- lines, each with its newline
abbrev pub lines_text : List Bytes → Bytes
lines_text lines = flat_map (λ line. line ++ 10 ∷ []) lines

-- the pieces of an input that is cut at each newline; the last one is what follows the last newline
abbrev pub pieces_of : Bytes → List Bytes
pieces_of input = slice_split (λ byte. byte == 10) input

-- pieces without a last one that is empty
abbrev pub without_empty_last : List Bytes → List Bytes
without_empty_last [] = []
without_empty_last ([] ∷ []) = []
without_empty_last ((byte ∷ piece) ∷ []) = (byte ∷ piece) ∷ []
without_empty_last (piece ∷ next ∷ more) = piece ∷ without_empty_last (next ∷ more)

-- the longest line, in bytes: an entry's length has 16 bits (C2SP tlog-tiles, "Log Entries")
abbrev pub most_line : ℕ
most_line = 65535

-- the line is longer than that
abbrev pub is_too_long : Bytes → Bool
is_too_long line = nat_lt most_line (length line)

-- the lines of an input: what follows the last newline is one if it isn't empty
unfoldable pub lines_of : Bytes → List Bytes
lines_of input = without_empty_last (pieces_of input)

-- the lines after the one within which the input begins
unfoldable pub lines_after : Bytes → List Bytes
lines_after input = without_empty_last (drop 1 (pieces_of input))

-- what is reported of a line: its bytes, or that the line with this number is too long
pub data Told : Type 0 where
  Entry : Bytes → Told
  TooLong : ℕ → Told

-- one more, up to 2^64 - 1
abbrev pub one_more : ℕ → ℕ
one_more count = min (count + 1) (2 ^ 64 - 1)

-- what is reported of lines, the first of which has this number
abbrev pub told_of : ℕ → List Bytes → List Told
told_of number [] = []
told_of number (line ∷ lines) = (if is_too_long line then TooLong number else Entry line) ∷ told_of (one_more number) lines

-- `entries`, and one more for each entry among what was reported
abbrev pub counted : ℕ → List Told → ℕ
counted entries [] = entries
counted entries (Entry line ∷ told) = counted (one_more entries) told
counted entries (TooLong number ∷ told) = counted entries told

-- what was read of an input and isn't cut into lines yet
pub record Uncut : Type 0 where
  -- the number of the line that is read, counted from 0
  pub number : ℕ
  -- how many of the lines before it were not too long
  pub entries : ℕ
  -- what was read of it, and what is left of the block after that
  pub begun : Bytes
  pub waiting : Bytes
  -- it is too long, which was reported, and the rest of it is left out
  pub in_tail : Bool

-- nothing is read yet
abbrev pub unread : Uncut
unread = record { number = 0; entries = 0; begun = []; waiting = []; in_tail = false }

-- what is still to be reported if the input goes on with these bytes and then ends
unfoldable pub to_come : Uncut → Bytes → List Told
to_come u more =
    let rest = (u.begun ++ u.waiting) ++ more in
    if u.in_tail then told_of (one_more u.number) (lines_after rest) else told_of u.number (lines_of rest)

-- the entries so far, and one more for each newline that isn't cut yet, except the one that ends a line already
-- reported as too long
abbrev pub entries_seen : Uncut → ℕ
entries_seen u = min (u.entries + (count_by (λ byte. byte == 10) u.waiting - (if u.in_tail then 1 else 0))) (2 ^ 64 - 1)

-- while the reader went from u to v and read these bytes, these lines were reported: whatever comes next, they are
-- the first of the lines that were to come from u, and the others are to come from v
pub record Tells (u v : Uncut) (read : Bytes) (told : List Told) : Type 0 where
  pub first : (more : Bytes) → to_come u (read ++ more) ≡ told ++ to_come v more
  pub entries : v.entries ≡ counted u.entries told

-- the next byte begins a line: whatever comes next, its lines are reported
pub record IsAtLine (u : Uncut) : Type 0 where
  pub number : ℕ
  pub lines : (more : Bytes) → to_come u more ≡ told_of number (lines_of more)

-- it holds no whole line, and none that is too long
pub record HoldsNoLine (u : Uncut) : Type 0 where
  pub cut : u.waiting ≡ []
  pub plain : HasNoNewline u.begun
  pub short : length u.begun ≤ most_line

-- the input ended, which ends a line that was begun, as its missing newline would
pub record Closes (u v : Uncut) (told : List Told) : Type 0 where
  pub newline : Bytes
  pub one : (newline ≡ []) ⊎ (newline ≡ 10 ∷ [])
  pub lacked : to_come u newline ≡ to_come u []
  pub tells : Tells u v newline told
  pub at_line : IsAtLine v

-- lines without newlines; each with its newline, they are the input, except that the input may lack the last newline
pub record AreLines (input : Bytes) (lines : List Bytes) : Type 0 where
  pub plain : All HasNoNewline lines
  pub joined : (lines_text lines ≡ input) ⊎ (lines_text lines ≡ input ++ 10 ∷ [])

-- the fields of a reader of lines: the part of its block that is left, and what was read of a line
pub record IsCutting (start end : ℕ) (block line : Bytes) (skips : Bool) : Type 0 where
  pub from : start ≤ end
  pub within : end ≤ length block
  pub room : length block ≡ 65536
  pub plain : HasNoNewline line
  pub short : length line ≤ most_line
  pub left_out : skips ≡ true → line ≡ []
