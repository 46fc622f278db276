-- Whole lines at the beginning of a piece of input, and the log of an input's lines with those added.
use Rattle.std.proofs.Common.{◌≡◌, ℕ, ◌+◌, ◌-◌, ◌<◌, ◌≤◌, true, false, List, [], ◌∷◌, ◌++◌, length, get_or, take, drop, refl, sym, ap, subst, ◌∙◌, arith, append_assoc, append-nil, All, Some, None, vec_items}
use Rattle.std.specs.Prelude.{◌==◌, Option, is_some}
use Rattle.std.proofs.Math.ListN.{set}
use Rattle.std.proofs.Math.Seq.{drop-append_seam, take-add, take-append_seam}
use Rattle.std.proofs.lemmas.Bool.{eqb-true, le-ltb}
use Rattle.std.proofs.lemmas.Grind.{flat_map-append}
use Rattle.std.proofs.lemmas.List.{length-append, length-take-le, take-append-drop, take_more, take_more_set, take_rest, get_or-take}
use Rattle.std.proofs.lemmas.List.Concat.{flat_map-cons}
use Rattle.std.proofs.lemmas.List.Elements.{All-append, All-from_get_or, All-head, All-nil, All-push, All-tail}
use Rattle.std.proofs.lemmas.List.Sums.{fails_before_first}
use Rattle.sha2.specs.Sha256.{sha256}
use Rattle.tl_text.specs.Text.{line}
use Rattle.tl_tile.specs.RightEdge.{IsEdgeOf}
use Rattle.tl_command.specs.Inner.Growing.{BeginsWith, FillsTiles, IsGrowing}
use Rattle.tl_command.specs.declared.growing.Growing.{Growing}
use Rattle.tl_command.specs.Lines.{first_too_long, is_too_long, lines_text, HasNoNewline}
use Rattle.tl_command.proofs.GrowingLemmas.{at_none, place_within, none_found, nothing_kept, push_short, told_none, told_was, IsOther}

abbrev pub IsShort : List ℕ → Type 0
IsShort text = is_too_long text ≡ false

-- what stands before the newline that a search found
pub plain_before : (s : List ℕ) (end : ℕ) → end ≤ length s → ((j : ℕ) → 0 ≤ j → j < end → (get_or s j 0 == 10) ≡ true → ⊥) → HasNoNewline (take end s)
plain_before s end within none =
    let count = length-take-le end s within in
    none_found (take end s) (λ j low lt same. none j low (omega (arith, lt, count)) (ap (λ (b : ℕ). b == 10) (sym (get_or-take end s j 0 (omega (arith, lt, count)))) ∙ same))

-- that and the newline are the front of the bytes
pub line_ends : (s : List ℕ) (end : ℕ) → end < length s → (get_or s end 0 == 10) ≡ true → line (take end s) ≡ take (end + 1) s
line_ends s end lt found = ap (λ (b : ℕ). take end s ++ b ∷ []) (sym (eqb-true (get_or s end 0) 10 found)) ∙ sym (take_more s end 0 lt)

pub line_front : (input s : List ℕ) (end : ℕ) → end < length s → (get_or s end 0 == 10) ≡ true → (input ++ take end s) ++ 10 ∷ [] ≡ input ++ take (end + 1) s
line_front input s end lt found = append_assoc input (take end s) (10 ∷ []) ∙ ap (λ (t : List ℕ). input ++ t) (line_ends s end lt found)

-- the text of one line
pub one_line : (text : List ℕ) → lines_text (text ∷ []) ≡ line text
one_line text = flat_map-cons line text [] ∙ append-nil (line text)

-- bytes begin with the line that a search found, if it isn't too long
pub begins_found : (s : List ℕ) (end : ℕ) → end < length s → (get_or s end 0 == 10) ≡ true
    → ((j : ℕ) → 0 ≤ j → j < end → (get_or s j 0 == 10) ≡ true → ⊥) → end ≤ 65535
    → BeginsWith s (take end s ∷ []) (take (length s - (end + 1)) (drop (end + 1) s))
begins_found s end lt found before short =
    let text = take end s in
    let count : length text ≡ end = length-take-le end s (omega arith) in
    record {
      whole = sym (ap (λ (t : List ℕ). t ++ take (length s - (end + 1)) (drop (end + 1) s)) (one_line text ∙ line_ends s end lt found)
          ∙ ap (λ (t : List ℕ). take (end + 1) s ++ t) (take_rest s (end + 1)) ∙ take-append-drop (end + 1) s);
      plain = All-push HasNoNewline [] text (All-nil HasNoNewline) (plain_before s end (omega arith) before);
      short = All-push IsShort [] text (All-nil IsShort) (le-ltb 65535 (length text) (omega (arith, count, short)));
    }

-- lines more
pub begins_more : (bytes rest end : List ℕ) (lines next : List (List ℕ)) → BeginsWith bytes lines rest → BeginsWith rest next end
    → BeginsWith bytes (lines ++ next) end
begins_more bytes rest end lines next front more = record {
  whole = front.whole ∙ ap (λ (t : List ℕ). lines_text lines ++ t) more.whole ∙ sym (append_assoc (lines_text lines) (lines_text next) end)
      ∙ ap (λ (t : List ℕ). t ++ end) (sym (flat_map-append line lines next));
  plain = All-append HasNoNewline lines next front.plain more.plain;
  short = All-append IsShort lines next front.short more.short;
}

-- no line yet
pub begins_nothing : (bytes : List ℕ) → BeginsWith bytes [] bytes
begins_nothing bytes = record { whole = refl; plain = All-nil HasNoNewline; short = All-nil IsShort }

-- one line more, put at its place
pub begins_placed : (bytes rest end : List ℕ) (lines : List (List ℕ)) (place : ℕ) (next : List ℕ) → place < length lines
    → BeginsWith bytes (take place lines) rest → BeginsWith rest (next ∷ []) end → BeginsWith bytes (take (place + 1) (set lines place next)) end
begins_placed bytes rest end lines place next below front more =
    subst (λ (all : List (List ℕ)). BeginsWith bytes all end) (sym (take_more_set lines place next below)) (begins_more bytes rest end (take place lines) (next ∷ []) front more)

-- if no line was too long, and more lines follow, none of which is
pub none_longer : (new lines : List (List ℕ)) → first_too_long lines ≡ None → All IsShort new → first_too_long (lines ++ new) ≡ None
none_longer [] lines none short = ap first_too_long (append-nil lines) ∙ none
none_longer (text ∷ new) lines none short =
    ap first_too_long (sym (append_assoc lines (text ∷ []) new))
    ∙ none_longer new (lines ++ text ∷ []) (push_short lines text none (All-head IsShort text new short)) (All-tail IsShort text new short)

-- what stands before the rest is the lines
pub lines_before : (bytes : List ℕ) (lines : List (List ℕ)) (rest : List ℕ) → BeginsWith bytes lines rest → length bytes ≡ length (lines_text lines) + length rest
lines_before bytes lines rest begins = ap length begins.whole ∙ length-append (lines_text lines) rest

-- each line has its newline
lines_long : (lines : List (List ℕ)) → length lines ≤ length (lines_text lines)
lines_long [] = omega arith
lines_long (text ∷ more) =
    omega (arith, ap length (flat_map-cons line text more), length-append (line text) (lines_text more), length-append text (10 ∷ []), lines_long more)

-- so whole lines are no more than the bytes before the rest
pub lines_within : (bytes : List ℕ) (lines : List (List ℕ)) (rest : List ℕ) → BeginsWith bytes lines rest → length lines + length rest ≤ length bytes
lines_within bytes lines rest begins = omega (arith, lines_before bytes lines rest begins, lines_long lines)

pub begins_front : (bytes : List ℕ) (lines : List (List ℕ)) (rest : List ℕ) → BeginsWith bytes lines rest → take (length bytes - length rest) bytes ≡ lines_text lines
begins_front bytes lines rest begins =
    let count : length bytes - length rest ≡ length (lines_text lines) = omega (arith, lines_before bytes lines rest begins) in
    ap (λ (n : ℕ). take n bytes) count ∙ ap (λ (t : List ℕ). take (length (lines_text lines)) t) begins.whole ∙ take-append_seam (lines_text lines) rest

-- what follows the lines is the rest
pub begins_back : (bytes : List ℕ) (lines : List (List ℕ)) (rest : List ℕ) → BeginsWith bytes lines rest → rest ≡ drop (length bytes - length rest) bytes
begins_back bytes lines rest begins =
    let count : length (lines_text lines) ≡ length bytes - length rest = omega (arith, lines_before bytes lines rest begins) in
    sym (drop-append_seam (lines_text lines) rest) ∙ ap (drop (length (lines_text lines))) (sym begins.whole) ∙ ap (λ (n : ℕ). drop n bytes) count

-- whole lines, and whole lines after them
lines_after : (before new : List (List ℕ)) (last : List ℕ) → last ≡ [] → (lines_text before ++ last) ++ lines_text new ≡ lines_text (before ++ new) ++ []
lines_after before new last none =
    ap (λ (t : List ℕ). (lines_text before ++ t) ++ lines_text new) none ∙ ap (λ (t : List ℕ). t ++ lines_text new) (append-nil (lines_text before))
    ∙ sym (flat_map-append line before new) ∙ sym (append-nil (lines_text (before ++ new)))

pub no_place : (place : Option ℕ) → is_some place ≡ false → place ≡ None
no_place None none = refl
no_place (Some i) none = absurd cc

-- more whole lines, if no line is begun and none was too long
pub grown_lines : {A : Type 0} (old new : Growing A) (input piece : List ℕ) (four : List (List ℕ)) (rest : List ℕ) → IsGrowing old input → BeginsWith piece four rest
    → old.too_long ≡ None → vec_items old.line ≡ [] → new.too_long ≡ None → vec_items new.line ≡ []
    → ((lines : List (List ℕ)) → IsEdgeOf old.edge sha256 lines → IsEdgeOf new.edge sha256 (lines ++ four))
    → IsGrowing new (input ++ take (length piece - length rest) piece)
grown_lines old new input piece four rest was begins none_was none_kept none_now kept_now pushed =
    let last : was.last ≡ [] = nothing_kept was.last (sym was.kept ∙ none_kept) in
    let told = told_was old was.lines none_was was.told in
    record {
      lines = was.lines ++ four;
      last = [];
      whole = ap (λ (t : List ℕ). input ++ t) (begins_front piece four rest begins) ∙ ap (λ (t : List ℕ). t ++ lines_text four) was.whole
          ∙ lines_after was.lines four was.last last;
      plain = All-append HasNoNewline was.lines four was.plain begins.plain;
      last_plain = All-nil IsOther;
      kept = kept_now;
      told = told_none new.too_long _ _ none_now (none_longer four was.lines told.0 begins.short, pushed was.lines told.1);
    }

-- no byte of a piece more
pub none_taken : (input piece : List ℕ) (n : ℕ) → n ≤ 0 → input ++ take n piece ≡ input
none_taken input piece n none =
    let zero : n ≡ 0 = omega arith in
    ap (λ (m : ℕ). input ++ take m piece) zero ∙ append-nil input

-- bytes more of a piece, after those that were taken
pub part_more : (input piece : List ℕ) (at n : ℕ) → (input ++ take at piece) ++ take n (take (length piece - at) (drop at piece)) ≡ input ++ take (at + n) piece
part_more input piece at n =
    ap (λ (t : List ℕ). (input ++ take at piece) ++ take n t) (take_rest piece at) ∙ append_assoc input (take at piece) (take n (drop at piece))
    ∙ ap (λ (t : List ℕ). input ++ t) (sym (take-add at n piece))

-- if no line is too long, each is short
pub each_short : (lines : List (List ℕ)) → first_too_long lines ≡ None → All IsShort lines
each_short lines none =
    let whole = at_none _ (length lines) none (place_within lines) in
    All-from_get_or IsShort lines [] (λ i lt. fails_before_first is_too_long lines i [] (omega (arith, whole, lt)))

-- the whole lines of a piece, after the whole lines of what stands before it, if no line is begun and none too long
pub grown_tiles : {A B : Type 0} (old new : Growing A) (next : Growing B) (input piece : List ℕ) → IsGrowing old input → IsGrowing next piece
    → FillsTiles old → FillsTiles next → new.too_long ≡ None → vec_items new.line ≡ []
    → ((lines added : List (List ℕ)) → IsEdgeOf old.edge sha256 lines → IsEdgeOf next.edge sha256 added → IsEdgeOf new.edge sha256 (lines ++ added))
    → IsGrowing new (input ++ piece)
grown_tiles old new next input piece was more fills next_fills none_now kept_now appended =
    let last : was.last ≡ [] = nothing_kept was.last (sym was.kept ∙ fills.unbegun) in
    let next_last : more.last ≡ [] = nothing_kept more.last (sym more.kept ∙ next_fills.unbegun) in
    let told = told_was old was.lines fills.short was.told in
    let next_told = told_was next more.lines next_fills.short more.told in
    let added : piece ≡ lines_text more.lines = more.whole ∙ ap (λ (t : List ℕ). lines_text more.lines ++ t) next_last ∙ append-nil (lines_text more.lines) in
    record {
      lines = was.lines ++ more.lines;
      last = [];
      whole = ap (λ (t : List ℕ). input ++ t) added ∙ ap (λ (t : List ℕ). t ++ lines_text more.lines) was.whole
          ∙ lines_after was.lines more.lines was.last last;
      plain = All-append HasNoNewline was.lines more.lines was.plain more.plain;
      last_plain = All-nil IsOther;
      kept = kept_now;
      told = told_none new.too_long _ _ none_now
          (none_longer more.lines was.lines told.0 (each_short more.lines next_told.0), appended was.lines more.lines told.1 next_told.1);
    }
