-- Lines and their text: the text is cut back into the lines, and a text is that of its pieces exactly if it ends with
-- a newline.
use Rattle.std.proofs.Common.{inl, inr, ◌≡◌, ℕ, suc, ◌<◌, ◌-◌, List, [], ◌∷◌, ◌++◌, length, get_or, refl, sym, ap, ◌∙◌, arith, eq-eqb, All}
use Rattle.std.specs.Prelude.{◌≢◌, ◌==◌, MatchBool, Some, None, slice_get}
use Rattle.std.specs.List.{flat_map, onto_first}
use Rattle.std.proofs.lemmas.Bool.{cases_eq, ne_eqb}
use Rattle.std.proofs.lemmas.List.Concat.{flat_map-cons}
use Rattle.std.proofs.lemmas.List.Elements.{All-head, All-tail}
use Rattle.std.proofs.lemmas.Option.{get_or_from_slice_get, slice_get-get_or}
use Rattle.tl_text.specs.Text.{line}
use Rattle.tl_command.specs.Lines.{entries_of, lines_text, HasNoNewline}
use Rattle.tl_command.proofs.LinesLemmas.{step_newline, step_other}

abbrev IsOther : ℕ → Type 0
IsOther byte = byte ≢ 10

-- a line is the first piece
pub entries_of_line : (text rest : List ℕ) → HasNoNewline text → entries_of (line text ++ rest) ≡ text ∷ entries_of rest
entries_of_line [] rest plain = step_newline 10 rest refl
entries_of_line (b ∷ text) rest plain =
    step_other b (line text ++ rest) (All-head IsOther b text plain) ∙ ap (λ (es : List (List ℕ)). onto_first b es) (entries_of_line text rest (All-tail IsOther b text plain))

-- lines are the pieces of their text
pub entries_of_lines : (lines : List (List ℕ)) → All HasNoNewline lines → entries_of (lines_text lines) ≡ lines
unfolding entries_of
entries_of_lines [] plain = refl
entries_of_lines (text ∷ lines) plain =
    ap entries_of (flat_map-cons line text lines) ∙ entries_of_line text (flat_map line lines) (All-head HasNoNewline text lines plain)
    ∙ ap (λ (es : List (List ℕ)). text ∷ es) (entries_of_lines lines (All-tail HasNoNewline text lines plain))

-- the last byte, and a newline if there is none
abbrev last_or : List ℕ → ℕ
last_or [] = 10
last_or (b ∷ []) = b
last_or (b ∷ c ∷ rest) = last_or (c ∷ rest)

last_is : (text : List ℕ) → last_or text ≡ get_or text (length text - 1) 10
last_is [] = refl
last_is (b ∷ []) = refl
last_is (b ∷ c ∷ rest) =
    let at : suc (suc (length rest)) - 1 ≡ suc (suc (length rest) - 1) = omega arith in
    last_is (c ∷ rest) ∙ ap (λ (i : ℕ). get_or (b ∷ c ∷ rest) i 10) (sym at)

pub last_of_some : (text : List ℕ) (byte : ℕ) → Some byte ≡ slice_get text (length text - 1) → last_or text ≡ byte
last_of_some text byte e = last_is text ∙ get_or_from_slice_get text (length text - 1) byte 10 (sym e)

pub last_of_none : (text : List ℕ) → None ≡ slice_get text (length text - 1) → last_or text ≡ 10
last_of_none [] e = refl
last_of_none (b ∷ rest) e =
    let there = slice_get-get_or (b ∷ rest) (length (b ∷ rest) - 1) 0 (omega arith) in
    absurd cc

some_piece : (es : List (List ℕ)) (rest : List ℕ) → lines_text es ≡ rest → 0 < length rest → 0 < length es
some_piece [] rest e some = absurd (omega (arith, ap length e, some))
some_piece (piece ∷ es) rest e some = omega arith

text_onto_first : (b : ℕ) (es : List (List ℕ)) → 0 < length es → lines_text (onto_first b es) ≡ b ∷ lines_text es
text_onto_first b [] some = absurd (omega arith)
text_onto_first b (piece ∷ es) some = flat_map-cons line (b ∷ piece) es ∙ ap (λ (t : List ℕ). b ∷ t) (sym (flat_map-cons line piece es))

-- a text that ends with a newline is that of its pieces
pub text_of_entries : (text : List ℕ) → last_or text ≡ 10 → text ≡ lines_text (entries_of text)
unfolding entries_of
text_of_entries [] e = refl
text_of_entries (b ∷ []) e = ap (λ (c : ℕ). c ∷ []) e ∙ sym (ap lines_text (step_newline b [] e))
text_of_entries (b ∷ c ∷ rest) e =
    let below = text_of_entries (c ∷ rest) e in
    elim (cases_eq b 10) as (λ _. b ∷ c ∷ rest ≡ lines_text (entries_of (b ∷ c ∷ rest))) [
      | inl same ↦ ap (λ (k : ℕ). k ∷ c ∷ rest) same ∙ ap (λ (t : List ℕ). 10 ∷ t) below
          ∙ sym (ap lines_text (step_newline b (c ∷ rest) same) ∙ flat_map-cons line [] (entries_of (c ∷ rest)))
      | inr other ↦ ap (λ (t : List ℕ). b ∷ t) below
          ∙ sym (ap lines_text (step_other b (c ∷ rest) other) ∙ text_onto_first b (entries_of (c ∷ rest)) (some_piece (entries_of (c ∷ rest)) (c ∷ rest) (sym below) (omega arith)))
    ]

-- another text is so with a newline more
pub text_with_newline : (text : List ℕ) → last_or text ≢ 10 → text ++ 10 ∷ [] ≡ lines_text (entries_of text)
unfolding entries_of
text_with_newline [] e = absurd (e refl)
text_with_newline (b ∷ []) e = sym (ap lines_text (step_other b [] e))
text_with_newline (b ∷ c ∷ rest) e =
    let below = text_with_newline (c ∷ rest) e in
    elim (cases_eq b 10) as (λ _. (b ∷ c ∷ rest) ++ 10 ∷ [] ≡ lines_text (entries_of (b ∷ c ∷ rest))) [
      | inl same ↦ ap (λ (k : ℕ). k ∷ ((c ∷ rest) ++ 10 ∷ [])) same ∙ ap (λ (t : List ℕ). 10 ∷ t) below
          ∙ sym (ap lines_text (step_newline b (c ∷ rest) same) ∙ flat_map-cons line [] (entries_of (c ∷ rest)))
      | inr other ↦ ap (λ (t : List ℕ). b ∷ t) below
          ∙ sym (ap lines_text (step_other b (c ∷ rest) other)
          ∙ text_onto_first b (entries_of (c ∷ rest)) (some_piece (entries_of (c ∷ rest)) ((c ∷ rest) ++ 10 ∷ []) (sym below) (omega arith)))
    ]

last_of_line : (text rest : List ℕ) → last_or rest ≡ 10 → last_or (line text ++ rest) ≡ 10
last_of_line [] [] e = refl
last_of_line [] (c ∷ rest) e = e
last_of_line (b ∷ []) rest e = last_of_line [] rest e
last_of_line (b ∷ c ∷ text) rest e = last_of_line (c ∷ text) rest e

-- the text of lines ends with a newline
pub last_of_lines : (lines : List (List ℕ)) → last_or (lines_text lines) ≡ 10
last_of_lines [] = refl
last_of_lines (text ∷ lines) = ap last_or (flat_map-cons line text lines) ∙ last_of_line text (flat_map line lines) (last_of_lines lines)

-- another text is that of no lines
pub not_lines : (text : List ℕ) (byte : ℕ) → Some byte ≡ slice_get text (length text - 1) → byte ≢ 10 → (lines : List (List ℕ)) → text ≢ lines_text lines
not_lines text byte e other lines is = other (sym (last_of_some text byte e) ∙ ap last_or is ∙ last_of_lines lines)

-- the last byte shows whether the text is lines
pub last_tells : (text : List ℕ) (byte : ℕ) → Some byte ≡ slice_get text (length text - 1)
    → MatchBool (byte == 10) (text ≡ lines_text (entries_of text)) ((lines : List (List ℕ)) → text ≢ lines_text lines)
last_tells text byte e =
    elim (cases_eq byte 10) as (λ _. MatchBool (byte == 10) (text ≡ lines_text (entries_of text)) ((lines : List (List ℕ)) → text ≢ lines_text lines)) [
      | inl same ↦ rw (eq-eqb byte 10 same) (text_of_entries text (last_of_some text byte e ∙ same))
      | inr other ↦ rw (ne_eqb byte 10 other) (not_lines text byte e other)
    ]
