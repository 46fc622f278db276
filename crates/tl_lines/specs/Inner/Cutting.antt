-- Cutting a block.
use Rattle.std.specs.Prelude.{◌≡◌, ◌≤◌, ◌<◌, ℕ, ◌+◌, Bool, true, false, [], ◌∷◌, ◌++◌, Option, MatchOption, Result, Ok, Err, length, take, drop}
use Rattle.tl_hash.specs.Bytes.{Bytes}
use Rattle.tl_lines.specs.Lines.{HasNoNewline, Uncut, most_line}

-- the first newline of a piece is at this place
pub record EndsAt (piece : Bytes) (end : ℕ) : Type 0 where
  pub within : end < length piece
  pub plain : HasNoNewline (take end piece)
  pub joined : piece ≡ take end piece ++ 10 ∷ drop (end + 1) piece

-- the place of the first newline of a piece, if it has one
abbrev pub FindsNewline : Bytes → Option ℕ → Type 0
FindsNewline piece found = MatchOption found (HasNoNewline piece) (EndsAt piece)

-- this many bytes of the block are added to the line, unless it would be too long
abbrev pub Extends : {E : Type 0} → ℕ → Uncut → Uncut → Result Bool E → Type 0
Extends count u v (Ok true) =
    (length u.begun + count ≤ most_line) × (v ≡ record u { begun = u.begun ++ take count u.waiting; waiting = drop count u.waiting })
Extends count u v (Ok false) = (most_line < length u.begun + count) × (v ≡ u)
Extends count u v (Err fault) = (0 < count) × (v ≡ u)

-- what is kept of a line
pub record IsKept (u : Uncut) : Type 0 where
  pub plain : HasNoNewline u.begun
  pub short : length u.begun ≤ most_line
  pub left_out : u.in_tail ≡ true → u.begun ≡ []
