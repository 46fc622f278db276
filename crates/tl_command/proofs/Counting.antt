-- How many lines a text has, line by line, and where it is cut after some of them.
use Rattle.std.proofs.Common.{inl, inr, ◌≡◌, ℕ, ◌+◌, ◌-◌, ◌<◌, ◌≤◌, true, List, [], ◌∷◌, ◌++◌, length, get_or, take, drop, refl, sym, ap, ◌∙◌, arith, append_assoc, append-nil, All, None, Some}
use Rattle.std.specs.Prelude.{◌==◌, Bool, cond, not}
use Rattle.std.proofs.Math.Seq.{take-add, take-append_seam, drop-append_seam}
use Rattle.std.proofs.lemmas.Bool.{cases_lt, le-ltb, lt-ltb}
use Rattle.std.proofs.lemmas.Grind.{flat_map-append}
use Rattle.std.proofs.lemmas.List.{drop_all, length-append, take-append-drop, take_all, take_rest}
use Rattle.std.proofs.lemmas.List.Elements.{All-head, All-nil, All-push, All-tail, All-weaker}
use Rattle.tl_text.specs.Text.{line}
use Rattle.tl_tile.specs.Bundle.{AreShortEntries, IsShortEntry}
use Rattle.tl_command.specs.Inner.Cuts.{AreWholeLines}
use Rattle.tl_command.specs.Inner.Growing.{BeginsWith, IsEdgeFault}
use Rattle.tl_command.specs.Lines.{entries_of, first_too_long, lines_text, HasNoNewline}
use Rattle.tl_run.specs.declared.fault.RunFault.{RunFault}
use Rattle.tl_run.specs.declared.fault.RunFault.TheVariants.{Refused, Read, Write, TooLarge, EntryTooLong, BadOrigin, BadIndex, BadOld, BadPath, NotThere, Malformed, Chain, Sign, Operator, Listen, Accept, OutOfMemory, BadName, BadKey, BadCheckpoint, WrongSignature, Unverified, Device, BadKeyFile, NothingThere}
use Rattle.tl_command.proofs.GrowingLemmas.{at_some, empty_list, entries_of_last, entries_so_far, none_found, place_in, push_after, push_long, push_short, some_at}
use Rattle.tl_command.proofs.LinesLemmas.{entries_of_nothing}
use Rattle.tl_command.proofs.LineTexts.{entries_of_lines}
use Rattle.tl_command.proofs.WholeLines.{IsShort, each_short, line_ends, none_longer, one_line, plain_before}

-- ---- counting

-- this many lines of a text stand before the rest, and none of them is too long
pub record IsCounted (text rest : List ℕ) (count : ℕ) : Type 0 where
  pub front : List (List ℕ)
  pub whole : entries_of text ≡ front ++ entries_of rest
  pub number : length front ≡ count
  pub short : first_too_long front ≡ None
  pub within : count + length rest ≤ length text

pub counted_none : (text : List ℕ) → IsCounted text text 0
counted_none text = record { front = []; whole = refl; number = refl; short = refl; within = omega arith }

pub counted_more : (text rest others first : List ℕ) (count : ℕ) → IsCounted text rest count → entries_of rest ≡ first ∷ entries_of others
    → length others < length rest → length first ≤ 65535 → IsCounted text others (count + 1)
counted_more text rest others first count was is shorter fits = record {
  front = was.front ++ first ∷ [];
  whole = was.whole ∙ ap (λ (es : List (List ℕ)). was.front ++ es) is ∙ sym (append_assoc was.front (first ∷ []) (entries_of others));
  number = omega (arith, length-append was.front (first ∷ []), was.number);
  short = push_short was.front first was.short (le-ltb 65535 (length first) fits);
  within = omega (arith, was.within, shorter);
}

-- lines more make no difference to the first that is too long
long_before : (more front : List (List ℕ)) (i : ℕ) → first_too_long front ≡ Some i → first_too_long (front ++ more) ≡ Some i
long_before [] front i some = ap first_too_long (append-nil front) ∙ some
long_before (text ∷ more) front i some =
    ap first_too_long (sym (append_assoc front (text ∷ []) more)) ∙ long_before more (front ++ text ∷ []) i (push_after front text i some)

pub counted_long : (text rest others first : List ℕ) (count : ℕ) → IsCounted text rest count → entries_of rest ≡ first ∷ entries_of others
    → 65535 < length first → first_too_long (entries_of text) ≡ Some count
counted_long text rest others first count was is long =
    let whole : entries_of text ≡ (was.front ++ first ∷ []) ++ entries_of others =
    was.whole ∙ ap (λ (es : List (List ℕ)). was.front ++ es) is ∙ sym (append_assoc was.front (first ∷ []) (entries_of others)) in
    ap first_too_long whole
    ∙ long_before (entries_of others) (was.front ++ first ∷ []) (length was.front) (push_long was.front first was.short (lt-ltb 65535 (length first) long))
    ∙ ap (λ (n : ℕ). Some n) was.number

-- all lines are counted
pub counted_all : (text rest : List ℕ) (count : ℕ) → IsCounted text rest count → (length rest == 0) ≡ true
    → (count ≡ length (entries_of text)) × (first_too_long (entries_of text) ≡ None)
counted_all text rest count was none =
    let whole : entries_of text ≡ was.front =
    was.whole ∙ ap (λ (es : List (List ℕ)). was.front ++ es) (entries_of_nothing rest none) ∙ append-nil was.front in
    (sym was.number ∙ ap length (sym whole), ap first_too_long whole ∙ was.short)

-- lines behind those of which none is too long
counted_behind : (text rest : List ℕ) (lines : List (List ℕ)) → BeginsWith text lines rest → entries_of text ≡ lines ++ entries_of rest
counted_behind text rest lines begins = ap entries_of begins.whole ∙ entries_so_far lines rest begins.plain

pub all_counted : (text rest : List ℕ) (lines : List (List ℕ)) (count : ℕ) → BeginsWith text lines rest → count ≡ length (entries_of rest)
    → first_too_long (entries_of rest) ≡ None → (length (entries_of text) ≡ length lines + count) × (first_too_long (entries_of text) ≡ None)
all_counted text rest lines count begins is none =
    let whole = counted_behind text rest lines begins in (
      omega (arith, ap length whole, length-append lines (entries_of rest), is),
      ap first_too_long whole ∙ none_longer (entries_of rest) lines (none_longer lines [] refl begins.short) (each_short (entries_of rest) none),
    )

long_after : (front others : List (List ℕ)) (place : ℕ) → All IsShort front → first_too_long others ≡ Some place → first_too_long (front ++ others) ≡ Some (length front + place)
long_after [] others place short some = let zero : place ≡ 0 + place = omega arith in some ∙ ap (λ (n : ℕ). Some n) zero
long_after (text ∷ front) others place short some =
    let found = at_some (place_in (front ++ others)) (length (front ++ others)) (length front + place) (long_after front others place (All-tail IsShort text front short) some) in
    let next : place_in (text ∷ (front ++ others)) ≡ 1 + place_in (front ++ others) = ap (λ (b : Bool). cond (not b) (1 + place_in (front ++ others)) 0) (All-head IsShort text front short) in
    some_at (place_in (text ∷ (front ++ others))) (length (text ∷ (front ++ others))) (length (text ∷ front) + place) (omega (arith, next, found.0)) (omega (arith, found.0, found.1))

pub long_behind : (text rest : List ℕ) (lines : List (List ℕ)) (place : ℕ) → BeginsWith text lines rest → first_too_long (entries_of rest) ≡ Some place
    → first_too_long (entries_of text) ≡ Some (length lines + place)
long_behind text rest lines place begins some =
    ap first_too_long (counted_behind text rest lines begins) ∙ long_after lines (entries_of rest) place begins.short some

-- ---- cutting

pub no_lines : (text : List ℕ) → AreWholeLines (take 0 text) 0
no_lines text = record { lines = []; whole = refl; plain = All-nil HasNoNewline; number = refl }

-- one line more, whose newline was found
pub lines_more : (text : List ℕ) (at newline count : ℕ) (rest : List ℕ) → rest ≡ take (length text - at) (drop at text) → AreWholeLines (take at text) count
    → newline < length rest → (get_or rest newline 0 == 10) ≡ true → ((j : ℕ) → 0 ≤ j → j < newline → (get_or rest j 0 == 10) ≡ true → ⊥)
    → AreWholeLines (take (at + (newline + 1)) text) (count + 1)
lines_more text at newline count rest is was lt found before =
    let part : take (newline + 1) (drop at text) ≡ line (take newline rest) =
    ap (take (newline + 1)) (sym (is ∙ take_rest text at)) ∙ sym (line_ends rest newline lt found) in
    record {
      lines = was.lines ++ take newline rest ∷ [];
      whole = take-add at (newline + 1) text ∙ (λ i. was.whole i ++ part i)
          ∙ ap (λ (t : List ℕ). lines_text was.lines ++ t) (sym (one_line (take newline rest)))
          ∙ sym (flat_map-append line was.lines (take newline rest ∷ []));
      plain = All-push HasNoNewline was.lines (take newline rest) was.plain (plain_before rest newline (omega (arith, lt)) before);
      number = omega (arith, length-append was.lines (take newline rest ∷ []), was.number);
    }

-- the lines of a text are those before a cut and those after it
pub lines_cut : (text : List ℕ) (at count : ℕ) (was : AreWholeLines (take at text) count) → entries_of text ≡ was.lines ++ entries_of (drop at text)
lines_cut text at count was =
    ap entries_of (sym (take-append-drop at text) ∙ ap (λ (t : List ℕ). t ++ drop at text) was.whole) ∙ entries_so_far was.lines (drop at text) was.plain

-- what has no newline is one line at most
one_at_most : (rest : List ℕ) → HasNoNewline rest → length (entries_of rest) ≤ 1
one_at_most rest plain =
    elim (cases_lt 0 (length rest)) as (λ _. length (entries_of rest) ≤ 1) [
      | inl some ↦ (let one = ap length (entries_of_last rest plain some) in omega (arith, one))
      | inr none ↦ (let zero : rest ≡ [] = empty_list rest (omega (arith, none)) in
          let empty = ap length (ap entries_of zero ∙ entries_of_nothing [] refl) in omega (arith, empty))
    ]

-- no newline more was found
pub lines_fewer : (text : List ℕ) (at count : ℕ) (rest : List ℕ) → rest ≡ take (length text - at) (drop at text) → AreWholeLines (take at text) count
    → ((j : ℕ) → 0 ≤ j → j < length rest → (get_or rest j 0 == 10) ≡ true → ⊥) → length (entries_of text) ≤ count + 1
lines_fewer text at count rest is was none =
    let all = ap length (lines_cut text at count was ∙ ap (λ (t : List ℕ). was.lines ++ entries_of t) (sym (is ∙ take_rest text at))) in
    omega (arith, all, length-append was.lines (entries_of rest), was.number, one_at_most rest (none_found rest none))

pub cut_front : (text : List ℕ) (at count : ℕ) → AreWholeLines (take at text) count → entries_of (take at text) ≡ take count (entries_of text)
cut_front text at count was =
    ap entries_of was.whole ∙ entries_of_lines was.lines was.plain ∙ sym (take-append_seam was.lines (entries_of (drop at text)))
    ∙ ap (λ (n : ℕ). take n (was.lines ++ entries_of (drop at text))) was.number ∙ ap (take count) (sym (lines_cut text at count was))

pub cut_back : (text : List ℕ) (at count : ℕ) → AreWholeLines (take at text) count → entries_of (drop at text) ≡ drop count (entries_of text)
cut_back text at count was =
    sym (drop-append_seam was.lines (entries_of (drop at text)))
    ∙ ap (λ (n : ℕ). drop n (was.lines ++ entries_of (drop at text))) was.number ∙ ap (drop count) (sym (lines_cut text at count was))

-- a text of no more lines is its own front
pub all_front : (text : List ℕ) (count : ℕ) → length (entries_of text) ≤ count → entries_of (take (length text) text) ≡ take count (entries_of text)
all_front text count few = ap entries_of (take_all (length text) text (omega arith)) ∙ sym (take_all count (entries_of text) few)

pub no_back : (text : List ℕ) (count : ℕ) → length (entries_of text) ≤ count → entries_of (drop (length text) text) ≡ drop count (entries_of text)
no_back text count few =
    ap entries_of (drop_all (length text) text (omega arith)) ∙ entries_of_nothing [] refl ∙ sym (drop_all count (entries_of text) few)

-- ---- lines that aren't too long

pub short_none : (entries : List (List ℕ)) → AreShortEntries entries → first_too_long entries ≡ None
short_none entries short =
    none_longer entries [] refl (All-weaker IsShortEntry IsShort (λ entry fits. le-ltb 65535 (length entry) (omega (arith, fits))) entries short)

-- if their edge isn't known, memory ran out
pub edge_memory : (lines : List (List ℕ)) (fault : RunFault) → AreShortEntries lines → IsEdgeFault lines fault → fault ≡ OutOfMemory
edge_memory lines (EntryTooLong place) short given = let bad : None ≡ Some place = sym (short_none lines short) ∙ given in absurd cc
edge_memory lines OutOfMemory short given = refl
edge_memory lines Refused short given = absurd given
edge_memory lines Read short given = absurd given
edge_memory lines Write short given = absurd given
edge_memory lines TooLarge short given = absurd given
edge_memory lines BadOrigin short given = absurd given
edge_memory lines BadIndex short given = absurd given
edge_memory lines BadOld short given = absurd given
edge_memory lines BadPath short given = absurd given
edge_memory lines NotThere short given = absurd given
edge_memory lines Malformed short given = absurd given
edge_memory lines (Chain place) short given = absurd given
edge_memory lines Sign short given = absurd given
edge_memory lines Operator short given = absurd given
edge_memory lines Listen short given = absurd given
edge_memory lines Accept short given = absurd given
edge_memory lines (Device place why) short given = absurd given
edge_memory lines BadName short given = absurd given
edge_memory lines BadKey short given = absurd given
edge_memory lines BadKeyFile short given = absurd given
edge_memory lines (NothingThere _) short given = absurd given
edge_memory lines (BadCheckpoint place) short given = absurd given
edge_memory lines (WrongSignature place) short given = absurd given
edge_memory lines Unverified short given = absurd given
