-- The lines of bytes, by the place of their first newline.
use Rattle.std.proofs.Common.{inl, inr, ◌≡◌, ◌≢◌, ℕ, ◌+◌, ◌<◌, ◌≤◌, Bool, true, false, List, [], ◌∷◌, ◌++◌, length, take, drop, get_or, cond, refl, sym, ap, ◌∙◌, arith, eq-eqb, lt-ltb, All, append_assoc, take-append-drop, subst}
use Rattle.std.specs.Prelude.{◌==◌, ◌⊎◌, Option, Some, None}
use Rattle.std.specs.List.{onto_first}
use Rattle.std.proofs.lemmas.Bool.{ne_eqb, eqb-true, le-ltb, cases_eq}
use Rattle.std.proofs.lemmas.List.{length-append, length-take-le, get_or-take, take_more}
use Rattle.std.proofs.lemmas.List.Elements.{All-nil, All-cons, All-head, All-tail, All-weaker, All-from_get_or}
use Rattle.std.proofs.lemmas.List.Splits.{slice_split-cons_no, slice_split-cons_yes, slice_split_at, slice_split_none, length-slice_split}
use Rattle.memchr.specs.Find.{IsFirstByte, is_byte}
use Rattle.tl_lines.specs.Lines.{AreLines, Entry, HasNoNewline, TooLong, lines_after, lines_of, lines_text, one_more, pieces_of, told_of, without_empty_last}
use Rattle.tl_lines.specs.Inner.Cutting.{EndsAt, FindsNewline}

abbrev pub IsOther : ℕ → Type 0
IsOther byte = byte ≢ 10

abbrev is_newline : ℕ → Bool
is_newline = λ byte. byte == 10

tests_false : (bytes : List ℕ) → HasNoNewline bytes → All (λ byte. is_newline byte ≡ false) bytes
tests_false bytes plain = All-weaker IsOther (λ byte. is_newline byte ≡ false) (λ byte other. ne_eqb byte 10 other) bytes plain

some_piece : (input : List ℕ) → 0 < length (pieces_of input)
some_piece input = omega (arith, length-slice_split is_newline input)

-- a list that isn't empty
pub first_of : {X : Type 0} (xs : List X) → 0 < length xs → (x : X) × (rest : List X) × (xs ≡ x ∷ rest)
first_of [] some = absurd (omega arith)
first_of (x ∷ rest) some = (x, rest, refl)

-- the pieces of a line with its newline and more
pieces_ended : (line rest : List ℕ) → HasNoNewline line → pieces_of (line ++ 10 ∷ rest) ≡ line ∷ pieces_of rest
pieces_ended line rest plain = slice_split_at is_newline line 10 rest (tests_false line plain) refl

-- those of bytes without a newline and more
pieces_joined : (part more first : List ℕ) (others : List (List ℕ)) → HasNoNewline part → pieces_of more ≡ first ∷ others → pieces_of (part ++ more) ≡ (part ++ first) ∷ others
pieces_joined [] more first others plain e = e
pieces_joined (x ∷ part) more first others plain e =
    slice_split-cons_no is_newline x (part ++ more) (ne_eqb x 10 (All-head IsOther x part plain))
    ∙ ap (onto_first x) (pieces_joined part more first others (All-tail IsOther x part plain) e)

-- an empty last piece is dropped wherever the pieces are cut
past_piece : (piece : List ℕ) (pieces : List (List ℕ)) → 0 < length pieces → without_empty_last (piece ∷ pieces) ≡ piece ∷ without_empty_last pieces
past_piece piece [] some = absurd (omega arith)
past_piece [] (next ∷ more) some = refl
past_piece (byte ∷ piece) (next ∷ more) some = refl

-- a piece that isn't empty is a line
kept_piece : (piece : List ℕ) (pieces : List (List ℕ)) → 0 < length piece → without_empty_last (piece ∷ pieces) ≡ piece ∷ without_empty_last pieces
kept_piece [] pieces some = absurd (omega arith)
kept_piece (byte ∷ piece) [] some = refl
kept_piece (byte ∷ piece) (next ∷ more) some = refl

-- the first line, with its newline
pub lines_ended : (line rest : List ℕ) → HasNoNewline line → lines_of (line ++ 10 ∷ rest) ≡ line ∷ lines_of rest
unfolding lines_of
lines_ended line rest plain = ap without_empty_last (pieces_ended line rest plain) ∙ past_piece line (pieces_of rest) (some_piece rest)

-- what follows the rest of a line and its newline
pub after_ended : (tail rest : List ℕ) → HasNoNewline tail → lines_after (tail ++ 10 ∷ rest) ≡ lines_of rest
unfolding lines_of lines_after
after_ended tail rest plain = ap (λ pieces. without_empty_last (drop 1 pieces)) (pieces_ended tail rest plain)

-- what follows the rest of a line that goes on
pub after_plain : (tail more : List ℕ) → HasNoNewline tail → lines_after (tail ++ more) ≡ lines_after more
unfolding lines_after
after_plain tail more plain =
    let first = first_of (pieces_of more) (some_piece more) in
    ap (λ pieces. without_empty_last (drop 1 pieces)) (pieces_joined tail more first.0 first.1 plain first.2)
    ∙ sym (ap (λ pieces. without_empty_last (drop 1 pieces)) first.2)

-- a last line without a newline
pub lines_plain : (line : List ℕ) → HasNoNewline line → 0 < length line → lines_of line ≡ line ∷ []
unfolding lines_of
lines_plain [] plain some = absurd (omega arith)
lines_plain (x ∷ line) plain some = ap without_empty_last (slice_split_none is_newline (x ∷ line) (tests_false (x ∷ line) plain))

-- what is reported of a line that isn't too long, and of one that is
pub told_short : (number : ℕ) (line : List ℕ) (lines : List (List ℕ)) → length line ≤ 65535 → told_of number (line ∷ lines) ≡ Entry line ∷ told_of (one_more number) lines
told_short number line lines short =
    ap (λ (b : Bool). cond b (TooLong number) (Entry line) ∷ told_of (one_more number) lines) (le-ltb 65535 (length line) short)

told_long : (number : ℕ) (line : List ℕ) (lines : List (List ℕ)) → 65535 < length line → told_of number (line ∷ lines) ≡ TooLong number ∷ told_of (one_more number) lines
told_long number line lines long =
    ap (λ (b : Bool). cond b (TooLong number) (Entry line) ∷ told_of (one_more number) lines) (lt-ltb 65535 (length line) long)

-- what is reported of a line that is too long, however it goes on
pub told_longer : (number : ℕ) (begun part more : List ℕ) → HasNoNewline begun → HasNoNewline part → 65535 < length begun + length part
    → told_of number (lines_of (begun ++ (part ++ more))) ≡ TooLong number ∷ told_of (one_more number) (lines_after (part ++ more))
unfolding lines_of lines_after
told_longer number begun part more plain plain_part long =
    let first = first_of (pieces_of more) (some_piece more) in
    let here = pieces_joined part more first.0 first.1 plain_part first.2 in
    let all = pieces_joined begun (part ++ more) (part ++ first.0) first.1 plain here in
    let line = begun ++ (part ++ first.0) in
    let long_line : 65535 < length line = omega (arith, length-append begun (part ++ first.0), length-append part first.0, long) in
    ap (λ pieces. told_of number (without_empty_last pieces)) all
    ∙ ap (told_of number) (kept_piece line first.1 (omega (arith, long_line)))
    ∙ told_long number line (without_empty_last first.1) long_line
    ∙ ap (λ pieces. TooLong number ∷ told_of (one_more number) (without_empty_last (drop 1 pieces))) (sym here)

-- if a search found no newline, and if it found one
pub none_found : (bytes : List ℕ) → ((j : ℕ) → 0 ≤ j → j < length bytes → (get_or bytes j 0 == 10) ≡ true → ⊥) → HasNoNewline bytes
none_found bytes none = All-from_get_or IsOther bytes 0 (λ j lt same. none j (omega arith) lt (eq-eqb (get_or bytes j 0) 10 same))

pub found_at : (bytes : List ℕ) (end : ℕ) → end < length bytes → (get_or bytes end 0 == 10) ≡ true
    → ((j : ℕ) → 0 ≤ j → j < end → (get_or bytes j 0 == 10) ≡ true → ⊥) → EndsAt bytes end
found_at bytes end lt found before =
    let count = length-take-le end bytes (omega (arith, lt)) in
    let newline : take end bytes ++ 10 ∷ [] ≡ take (end + 1) bytes =
    ap (λ (b : ℕ). take end bytes ++ b ∷ []) (sym (eqb-true (get_or bytes end 0) 10 found)) ∙ sym (take_more bytes end 0 lt) in
    record {
      within = lt;
      plain = none_found (take end bytes) (λ j low below same. before j low (omega (arith, below, count)) (ap (λ (b : ℕ). b == 10) (sym (get_or-take end bytes j 0 (omega (arith, below, count)))) ∙ same));
      joined = sym (take-append-drop (end + 1) bytes) ∙ ap (λ (t : List ℕ). t ++ drop (end + 1) bytes) (sym newline) ∙ append_assoc (take end bytes) (10 ∷ []) (drop (end + 1) bytes);
    }

-- the lines of an input are the input
step_newline : (x : ℕ) (rest : List ℕ) → x ≡ 10 → lines_of (x ∷ rest) ≡ [] ∷ lines_of rest
unfolding lines_of
step_newline x rest e = ap without_empty_last (slice_split-cons_yes is_newline x rest (eq-eqb x 10 e)) ∙ past_piece [] (pieces_of rest) (some_piece rest)

within_piece : (x : ℕ) (pieces : List (List ℕ)) → 0 < length pieces → without_empty_last (onto_first x pieces) ≡ onto_first x (without_empty_last pieces)
within_piece x [] some = absurd (omega arith)
within_piece x ([] ∷ []) some = refl
within_piece x ((first ∷ piece) ∷ []) some = refl
within_piece x ([] ∷ next ∷ more) some = refl
within_piece x ((first ∷ piece) ∷ next ∷ more) some = refl

step_other : (x : ℕ) (rest : List ℕ) → x ≢ 10 → lines_of (x ∷ rest) ≡ onto_first x (lines_of rest)
unfolding lines_of
step_other x rest e = ap without_empty_last (slice_split-cons_no is_newline x rest (ne_eqb x 10 e)) ∙ within_piece x (pieces_of rest) (some_piece rest)

-- one byte more at the front of both
joined_more : (x y : ℕ) (rest text : List ℕ) → y ≡ x → (text ≡ rest) ⊎ (text ≡ rest ++ 10 ∷ []) → (y ∷ text ≡ x ∷ rest) ⊎ (y ∷ text ≡ (x ∷ rest) ++ 10 ∷ [])
joined_more x y rest text same (inl e) = inl cc
joined_more x y rest text same (inr e) = inr cc

-- a byte alone
joined_first : (x : ℕ) (rest : List ℕ) → ([] ≡ rest) ⊎ ([] ≡ rest ++ 10 ∷ []) → (x ∷ 10 ∷ [] ≡ x ∷ rest) ⊎ (x ∷ 10 ∷ [] ≡ (x ∷ rest) ++ 10 ∷ [])
joined_first x rest (inl e) = inr (ap (λ (t : List ℕ). x ∷ (t ++ 10 ∷ [])) e)
joined_first x rest (inr e) = absurd (omega (arith, ap length e, length-append rest (10 ∷ [])))

empty_first : (x : ℕ) (rest : List ℕ) (lines : List (List ℕ)) → 10 ≡ x → AreLines rest lines → AreLines (x ∷ rest) ([] ∷ lines)
empty_first x rest lines same are = record {
  plain = All-cons HasNoNewline [] lines (All-nil IsOther) are.plain;
  joined = joined_more x 10 rest (lines_text lines) same are.joined;
}

more_first : (x : ℕ) (rest : List ℕ) (lines : List (List ℕ)) → x ≢ 10 → AreLines rest lines → AreLines (x ∷ rest) (onto_first x lines)
more_first x rest [] other are = record {
  plain = All-cons HasNoNewline (x ∷ []) [] (All-cons IsOther x [] other (All-nil IsOther)) (All-nil HasNoNewline);
  joined = joined_first x rest are.joined;
}
more_first x rest (line ∷ lines) other are = record {
  plain = All-cons HasNoNewline (x ∷ line) lines (All-cons IsOther x line other (All-head HasNoNewline line lines are.plain)) (All-tail HasNoNewline line lines are.plain);
  joined = joined_more x x rest (lines_text (line ∷ lines)) refl are.joined;
}

pub are_lines : (input : List ℕ) → AreLines input (lines_of input)
unfolding lines_of
are_lines [] = record { plain = All-nil HasNoNewline; joined = inl refl }
are_lines (x ∷ rest) =
    elim (cases_eq x 10) as (λ _. AreLines (x ∷ rest) (lines_of (x ∷ rest))) [
      | inl same ↦ subst (AreLines (x ∷ rest)) (sym (step_newline x rest same)) (empty_first x rest (lines_of rest) (sym same) (are_lines rest))
      | inr other ↦ subst (AreLines (x ∷ rest)) (sym (step_other x rest other)) (more_first x rest (lines_of rest) other (are_lines rest))
    ]

-- what a search for a newline shows
pub finds : (piece : List ℕ) (found : Option ℕ) → IsFirstByte (is_byte 10) piece found → FindsNewline piece found
finds piece None first = none_found piece first
finds piece (Some end) first = found_at piece end first.0.high first.1 first.0.before
