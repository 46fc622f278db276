-- Whole lines at the beginning of a piece of input are found: if a search finds too few, there are no more.
use Rattle.std.proofs.Common.{◌≡◌, ℕ, ◌<◌, ◌≤◌, true, false, inl, inr, List, [], ◌∷◌, ◌++◌, length, get_or, drop, refl, sym, ap, subst, ◌∙◌, arith, append_assoc}
use Rattle.std.specs.Prelude.{◌==◌}
use Rattle.std.proofs.lemmas.Bool.{cases_lt, eq-eqb, lt-ltb}
use Rattle.std.proofs.lemmas.List.{length-append, length-drop}
use Rattle.std.proofs.lemmas.List.Concat.{flat_map-cons}
use Rattle.std.proofs.lemmas.List.Elements.{All-head, All-tail}
use Rattle.tl_text.specs.Text.{line}
use Rattle.tl_command.specs.Inner.Cuts.{BeginsWithLines}
use Rattle.tl_command.specs.Inner.Growing.{BeginsWith}
use Rattle.tl_command.specs.Lines.{lines_text, HasNoNewline}
use Rattle.tl_command.proofs.GrowingLemmas.{IsOther}
use Rattle.tl_command.proofs.WholeLines.{IsShort}

-- ---- one line

-- the newline stands behind a line's text
newline_at : (text rest : List ℕ) → get_or (line text ++ rest) (length text) 0 ≡ 10
newline_at [] rest = refl
newline_at (byte ∷ text) rest = newline_at text rest

short_length : (text : List ℕ) → IsShort text → length text ≤ 65535
short_length text short =
    elim (cases_lt 65535 (length text)) as (λ _. length text ≤ 65535) [
      | inl long ↦ (let both : true ≡ false = sym (lt-ltb 65535 (length text) long) ∙ short in absurd cc)
      | inr within ↦ omega (arith, within)
    ]

-- bytes that begin with a line, and then others
first_line : (bytes text : List ℕ) (more : List (List ℕ)) (rest : List ℕ) → BeginsWith bytes (text ∷ more) rest → bytes ≡ line text ++ (lines_text more ++ rest)
first_line bytes text more rest begins =
    begins.whole ∙ ap (λ (t : List ℕ). t ++ rest) (flat_map-cons line text more) ∙ append_assoc (line text) (lines_text more) rest

-- where the newline of the first line stands
pub record HasNewline (piece : List ℕ) : Type 0 where
  pub end : ℕ
  pub short : end ≤ 65535
  pub within : end < length piece
  pub found : (get_or piece end 0 == 10) ≡ true

newline_of : (piece text : List ℕ) (more : List (List ℕ)) (rest : List ℕ) → BeginsWith piece (text ∷ more) rest → HasNewline piece
newline_of piece text more rest begins =
    let after = lines_text more ++ rest in
    let whole = first_line piece text more rest begins in
    record {
      end = length text;
      short = short_length text (All-head IsShort text more begins.short);
      within = omega (arith, ap length whole, length-append (line text) after, length-append text (10 ∷ []));
      found = eq-eqb (get_or piece (length text) 0) 10 (ap (λ (t : List ℕ). get_or t (length text) 0) whole ∙ newline_at text after);
    }

pub newline_there : (piece : List ℕ) → BeginsWithLines piece 1 → HasNewline piece
newline_there piece some =
    elim some.lines as (λ (lines : List (List ℕ)). BeginsWith piece lines some.rest → 1 ≤ length lines → HasNewline piece) [
      | [] ↦ λ begins few. absurd (omega (arith, few))
      | text ∷ more ↦ λ begins few. newline_of piece text more some.rest begins
    ] some.begins some.number

-- ---- more lines

-- lines that begin alike, with their newlines, are the same, and so is what follows them
record AreAlike (a b x y : List ℕ) : Type 0 where
  same : a ≡ b
  rest : x ≡ y

same_line : (a b x y : List ℕ) → HasNoNewline a → HasNoNewline b → line a ++ x ≡ line b ++ y → AreAlike a b x y
same_line [] [] x y p q e = record { same = refl; rest = ap (drop 1) e }
same_line [] (d ∷ b) x y p q e = absurd (All-head IsOther d b q (sym (ap (λ (t : List ℕ). get_or t 0 0) e)))
same_line (c ∷ a) [] x y p q e = absurd (All-head IsOther c a p (ap (λ (t : List ℕ). get_or t 0 0) e))
same_line (c ∷ a) (d ∷ b) x y p q e =
    let more = same_line a b x y (All-tail IsOther c a p) (All-tail IsOther d b q) (ap (drop 1) e) in
    let first : c ≡ d = ap (λ (t : List ℕ). get_or t 0 0) e in
    record { same = (λ i. first i ∷ more.same i); rest = more.rest }

-- what follows some of the lines begins with the others
pub begins_behind : (lines all : List (List ℕ)) (bytes rest end : List ℕ) → BeginsWith bytes lines rest → BeginsWith bytes all end → length lines ≤ length all
    → BeginsWith rest (drop (length lines) all) end
begins_behind [] all bytes rest end front whole within = subst (λ (t : List ℕ). BeginsWith t all end) front.whole whole
begins_behind (text ∷ lines) [] bytes rest end front whole within = absurd (omega (arith, within))
begins_behind (text ∷ lines) (next ∷ all) bytes rest end front whole within =
    let after = lines_text lines ++ rest in
    let alike = same_line text next after (lines_text all ++ end) (All-head HasNoNewline text lines front.plain) (All-head HasNoNewline next all whole.plain)
    (sym (first_line bytes text lines rest front) ∙ first_line bytes next all end whole) in
    begins_behind lines all after rest end
    (record { whole = refl; plain = All-tail HasNoNewline text lines front.plain; short = All-tail IsShort text lines front.short })
    (record { whole = alike.rest; plain = All-tail HasNoNewline next all whole.plain; short = All-tail IsShort next all whole.short })
    (omega (arith, within))

-- ---- none

-- if there is no newline, there is no line
pub no_line : (piece : List ℕ) → ((j : ℕ) → 0 ≤ j → j < length piece → (get_or piece j 0 == 10) ≡ true → ⊥) → BeginsWithLines piece 1 → ⊥
no_line piece none some = let there = newline_there piece some in none there.end (omega arith) there.within there.found

-- nor if the first newline is too far
pub far_line : (piece : List ℕ) (end : ℕ) → ((j : ℕ) → 0 ≤ j → j < end → (get_or piece j 0 == 10) ≡ true → ⊥) → 65535 < end → BeginsWithLines piece 1 → ⊥
far_line piece end none far some = let there = newline_there piece some in none there.end (omega arith) (omega (arith, there.short, far)) there.found

-- if no line follows fewer than 256, there are fewer than 256
pub no_tile : (piece rest : List ℕ) (lines : List (List ℕ)) → BeginsWith piece lines rest → length lines < 256 → (BeginsWithLines rest 1 → ⊥) → BeginsWithLines piece 256 → ⊥
no_tile piece rest lines front few none some = none (record {
  lines = drop (length lines) some.lines;
  rest = some.rest;
  begins = begins_behind lines some.lines piece rest some.rest front some.begins (omega (arith, few, some.number));
  number = omega (arith, length-drop (length lines) some.lines, few, some.number);
})
