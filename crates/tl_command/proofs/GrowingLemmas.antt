-- The log of an input's lines, one part of the input more.
use Rattle.std.proofs.Common.{inl, inr, ◌≡◌, ℕ, ◌+◌, ◌-◌, ◌<◌, ◌≤◌, Bool, true, false, cond, List, [], ◌∷◌, ◌++◌, length, get_or, take, min, refl, sym, ap, ◌∙◌, arith, append_assoc, append-nil, eq-eqb, lt-ltb, All, Some, None}
use Rattle.std.specs.Prelude.{◌≢◌, ◌==◌, nat_lt, not, Option, MatchOption, is_some, Result, Ok, Err}
use Rattle.std.specs.List.{position_or_len}
use Rattle.std.proofs.Math.Seq.{take-append-add}
use Rattle.std.proofs.lemmas.Bool.{cases_lt, le-ltb, ne_eqb}
use Rattle.std.proofs.lemmas.Grind.{flat_map-append}
use Rattle.std.proofs.lemmas.List.{take_all, take_min, take-append-le, length-take-le, length-append, get_or_default}
use Rattle.std.proofs.lemmas.List.Concat.{flat_map-cons}
use Rattle.std.proofs.lemmas.List.Elements.{All-push, All-head, All-tail}
use Rattle.std.proofs.lemmas.List.Folds.{position_or_len_push}
use Rattle.std.proofs.lemmas.List.Sums.{prefix_len-le-length}
use Rattle.std.specs.Io.KnownBytes.{Consumes}
use Rattle.tl_text.specs.Text.{line}
use Rattle.sha2.specs.Sha256.{sha256}
use Rattle.tl_tile.specs.RightEdge.{EdgeContents, IsEdgeOf}
use Rattle.tl_device.specs.Device.{Passage, ReadWhole}
use Rattle.tl_command.specs.Inner.Growing.{IsGrowing, IsOutcome, IsTold, ReadsEdge}
use Rattle.tl_run.specs.Run.{most_input}
use Rattle.tl_run.specs.declared.fault.RunFault.{RunFault}
use Rattle.tl_run.specs.declared.fault.RunFault.TheVariants.{Refused, Read, Write, TooLarge, EntryTooLong, BadOrigin, BadIndex, BadOld, BadPath, NotThere, Malformed, Chain, Sign, Operator, Listen, Accept, OutOfMemory, BadName, BadKey, BadCheckpoint, WrongSignature, Unverified, Device, BadKeyFile, NothingThere}
use Rattle.tl_command.specs.declared.growing.Growing.{Growing}
use Rattle.tl_command.specs.Lines.{entries_of, first_too_long, is_too_long, lines_text, HasNoNewline}
use Rattle.tl_command.proofs.LinesLemmas.{entries_without_newline}
use Rattle.tl_command.proofs.LineTexts.{entries_of_line}

-- what is kept of a longer line
pub kept_more : (last part kept : List ℕ) → kept ≡ take 65536 last → kept ++ take (min (65536 - length kept) (length part)) part ≡ take 65536 (last ++ part)
kept_more last part kept is =
    elim (cases_lt 65536 (length last)) as (λ _. kept ++ take (min (65536 - length kept) (length part)) part ≡ take 65536 (last ++ part)) [
      | inl long ↦
          let full : length kept ≡ 65536 = ap length is ∙ length-take-le 65536 last (omega (arith, long)) in
          let none : 65536 - length kept ≡ 0 = omega (arith, full) in
          ap (λ (n : ℕ). kept ++ take (min n (length part)) part) none ∙ ap (λ (t : List ℕ). kept ++ t) (take_min 0 part) ∙ append-nil kept ∙ is ∙ sym (take-append-le 65536 last part (omega (arith, long)))
      | inr short ↦
          let all : kept ≡ last = is ∙ take_all 65536 last short in
          let sum : length last + (65536 - length last) ≡ 65536 = omega (arith, short) in
          ap (λ (t : List ℕ). kept ++ t) (take_min (65536 - length kept) part) ∙ ap (λ (k : List ℕ). k ++ take (65536 - length k) part) all
          ∙ sym (take-append-add last part (65536 - length last)) ∙ ap (λ (n : ℕ). take n (last ++ part)) sum
    ]

-- a line is too long if as many bytes are there as are kept of a line that is too long
pub long_tells : (last kept : List ℕ) → kept ≡ take 65536 last → length kept ≡ 65536 → is_too_long last ≡ true
long_tells last kept is full =
    elim (cases_lt 65535 (length last)) as (λ _. is_too_long last ≡ true) [
      | inl long ↦ lt-ltb 65535 (length last) long
      | inr short ↦ let all = ap length (is ∙ take_all 65536 last (omega (arith, short))) in absurd (omega (arith, short, full, all))
    ]

pub short_tells : (last kept : List ℕ) → kept ≡ take 65536 last → length kept ≢ 65536 → (is_too_long last ≡ false) × (kept ≡ last)
short_tells last kept is apart =
    elim (cases_lt 65535 (length last)) as (λ _. (is_too_long last ≡ false) × (kept ≡ last)) [
      | inl long ↦ absurd (apart (ap length is ∙ length-take-le 65536 last (omega (arith, long))))
      | inr short ↦ (le-ltb 65535 (length last) short, is ∙ take_all 65536 last (omega (arith, short)))
    ]

-- if no line was too long, and one line more follows
pub at_none : (place count : ℕ) → cond (nat_lt place count) (Some place) None ≡ None → place ≤ count → place ≡ count
at_none place count e within =
    elim (cases_lt place count) as (λ _. place ≡ count) [
      | inl lt ↦ let bad : Some place ≡ None = ap (λ (b : Bool). cond b (Some place) None) (sym (lt-ltb place count lt)) ∙ e in absurd cc
      | inr ge ↦ omega (arith, ge, within)
    ]

pub at_some : (place count i : ℕ) → cond (nat_lt place count) (Some place) None ≡ Some i → (place ≡ i) × (place < count)
at_some place count i e =
    elim (cases_lt place count) as (λ _. (place ≡ i) × (place < count)) [
      | inl lt ↦ let same : Some place ≡ Some i = ap (λ (b : Bool). cond b (Some place) None) (sym (lt-ltb place count lt)) ∙ e in (cc, lt)
      | inr ge ↦ let bad : None ≡ Some i = ap (λ (b : Bool). cond b (Some place) None) (sym (le-ltb place count ge)) ∙ e in absurd cc
    ]

abbrev pub place_in : List (List ℕ) → ℕ
place_in lines = position_or_len is_too_long lines

pub place_within : (lines : List (List ℕ)) → place_in lines ≤ length lines
place_within lines = prefix_len-le-length (λ x. not (is_too_long x)) lines

pub push_short : (lines : List (List ℕ)) (last : List ℕ) → first_too_long lines ≡ None → is_too_long last ≡ false → first_too_long (lines ++ last ∷ []) ≡ None
push_short lines last none short =
    let at : place_in lines ≡ length lines = at_none (place_in lines) (length lines) none (place_within lines) in
    let next : place_in (lines ++ last ∷ []) ≡ length lines + 1 =
    position_or_len_push is_too_long lines last ∙ ap (λ (b : Bool). cond b (length lines + cond (is_too_long last) 0 1) (place_in lines)) (eq-eqb (place_in lines) (length lines) at)
    ∙ ap (λ (b : Bool). length lines + cond b 0 1) short in
    let size : length (lines ++ last ∷ []) ≤ place_in (lines ++ last ∷ []) = omega (arith, next, length-append lines (last ∷ [])) in
    ap (λ (b : Bool). cond b (Some (place_in (lines ++ last ∷ []))) None) (le-ltb (place_in (lines ++ last ∷ [])) (length (lines ++ last ∷ [])) size)

pub some_at : (place count i : ℕ) → place ≡ i → i < count → cond (nat_lt place count) (Some place) None ≡ Some i
some_at place count i e lt = ap (λ (b : Bool). cond b (Some place) None) (lt-ltb place count (omega (arith, e, lt))) ∙ ap (λ (n : ℕ). Some n) e

pub push_long : (lines : List (List ℕ)) (last : List ℕ) → first_too_long lines ≡ None → is_too_long last ≡ true → first_too_long (lines ++ last ∷ []) ≡ Some (length lines)
push_long lines last none long =
    let at : place_in lines ≡ length lines = at_none (place_in lines) (length lines) none (place_within lines) in
    let next : place_in (lines ++ last ∷ []) ≡ length lines + 0 =
    position_or_len_push is_too_long lines last ∙ ap (λ (b : Bool). cond b (length lines + cond (is_too_long last) 0 1) (place_in lines)) (eq-eqb (place_in lines) (length lines) at)
    ∙ ap (λ (b : Bool). length lines + cond b 0 1) long in
    some_at (place_in (lines ++ last ∷ [])) (length (lines ++ last ∷ [])) (length lines) (omega (arith, next)) (omega (arith, length-append lines (last ∷ [])))

pub push_after : (lines : List (List ℕ)) (last : List ℕ) (i : ℕ) → first_too_long lines ≡ Some i → first_too_long (lines ++ last ∷ []) ≡ Some i
push_after lines last i some =
    let found = at_some (place_in lines) (length lines) i some in
    let next : place_in (lines ++ last ∷ []) ≡ i =
    position_or_len_push is_too_long lines last ∙ ap (λ (b : Bool). cond b (length lines + cond (is_too_long last) 0 1) (place_in lines)) (ne_eqb (place_in lines) (length lines) (λ e. absurd (omega (arith, found.1, e)))) ∙ found.0 in
    some_at (place_in (lines ++ last ∷ [])) (length (lines ++ last ∷ [])) i next (omega (arith, found.0, found.1, length-append lines (last ∷ [])))

-- the last line is ended
pub line_ended : (lines : List (List ℕ)) (last : List ℕ) → (lines_text lines ++ last) ++ 10 ∷ [] ≡ lines_text (lines ++ last ∷ []) ++ []
line_ended lines last =
    append_assoc (lines_text lines) last (10 ∷ [])
    ∙ ap (λ (t : List ℕ). lines_text lines ++ t) (sym (flat_map-cons line last [] ∙ append-nil (line last)))
    ∙ sym (flat_map-append line lines (last ∷ []))
    ∙ sym (append-nil (lines_text (lines ++ last ∷ [])))

-- the entries of an input are its whole lines, and those of what follows them
pub entries_so_far : (lines : List (List ℕ)) (last : List ℕ) → All HasNoNewline lines → entries_of (lines_text lines ++ last) ≡ lines ++ entries_of last
entries_so_far [] last plain = refl
entries_so_far (text ∷ lines) last plain =
    ap (λ (t : List ℕ). entries_of (t ++ last)) (flat_map-cons line text lines) ∙ ap entries_of (append_assoc (line text) (lines_text lines) last)
    ∙ entries_of_line text (lines_text lines ++ last) (All-head HasNoNewline text lines plain)
    ∙ ap (λ (es : List (List ℕ)). text ∷ es) (entries_so_far lines last (All-tail HasNoNewline text lines plain))

pub entries_of_last : (last : List ℕ) → HasNoNewline last → 0 < length last → entries_of last ≡ last ∷ []
entries_of_last last plain some = entries_without_newline last some (λ j lt. plain j 0 lt)

pub entries_whole : (lines : List (List ℕ)) (input : List ℕ) → All HasNoNewline lines → input ≡ lines_text lines ++ [] → entries_of input ≡ lines
unfolding entries_of
entries_whole lines input plain e = ap entries_of e ∙ entries_so_far lines [] plain ∙ append-nil lines

pub nothing_kept : (last : List ℕ) → take 65536 last ≡ [] → last ≡ []
nothing_kept [] e = refl
nothing_kept (b ∷ last) e =
    let shown : take 65536 (b ∷ last) ≡ b ∷ take 65535 last = take-append-add (b ∷ []) last 65535 in
    absurd (omega (arith, ap length (sym shown ∙ e)))

abbrev pub IsOther : ℕ → Type 0
IsOther byte = byte ≢ 10

-- this many bytes were consumed and taken
pub record HasRead {A : Type 0} (old new : Option (List ℕ)) (g : Growing A) (total : ℕ) : Type 0 where
  pub input : List ℕ
  pub count : length input ≡ total
  pub consumed : Consumes old new input
  pub growing : IsGrowing g input

-- what is known of the lines, by whether one was too long
pub told_none : (place : Option ℕ) (P : Type 0) (Q : ℕ → Type 0) → place ≡ None → P → MatchOption place P Q
told_none place P Q e holds = rw e holds

pub told_was : {A : Type 0} (g : Growing A) (lines : List (List ℕ)) → g.too_long ≡ None → IsTold g lines → (first_too_long lines ≡ None) × IsEdgeOf g.edge sha256 lines
told_was g lines e told = rw e at told

pub told_after : (place : Option ℕ) (lines : List (List ℕ)) (last : List ℕ) (P Q : Type 0) → is_some place ≡ true
    → MatchOption place P (λ i. first_too_long lines ≡ Some i) → MatchOption place Q (λ i. first_too_long (lines ++ last ∷ []) ≡ Some i)
told_after None lines last P Q e told = absurd cc
told_after (Some i) lines last P Q e told = push_after lines last i told

pub empty_list : {X : Type 0} (xs : List X) → length xs ≡ 0 → xs ≡ []
empty_list [] e = refl
empty_list (x ∷ xs) e = absurd (omega (arith, e))

pub some_kept : (last kept : List ℕ) → kept ≡ take 65536 last → 0 < length kept → 0 < length last
some_kept [] kept is some = absurd (omega (arith, ap length is, some))
some_kept (b ∷ last) kept is some = omega arith

-- an input whose last line isn't empty has the same entries with its newline
pub same_entries : (lines : List (List ℕ)) (last input : List ℕ) → All HasNoNewline lines → HasNoNewline last → input ≡ lines_text lines ++ last → 0 < length last
    → entries_of input ≡ entries_of (input ++ 10 ∷ [])
same_entries lines last input plain last_plain e some =
    let ended : input ++ 10 ∷ [] ≡ lines_text (lines ++ last ∷ []) ++ [] = ap (λ (t : List ℕ). t ++ 10 ∷ []) e ∙ line_ended lines last in
    ap entries_of e ∙ entries_so_far lines last plain ∙ ap (λ (es : List (List ℕ)). lines ++ es) (entries_of_last last last_plain some)
    ∙ sym (entries_whole (lines ++ last ∷ []) (input ++ 10 ∷ []) (All-push HasNoNewline lines last plain last_plain) ended)

-- no newline was found
pub none_found : (s : List ℕ) → ((j : ℕ) → 0 ≤ j → j < length s → (get_or s j 0 == 10) ≡ true → ⊥) → HasNoNewline s
none_found s none k d lt e = none k (omega arith) lt (eq-eqb (get_or s k 0) 10 (get_or_default s k 0 d lt ∙ e))

-- what is known of the entries of a whole input that was read
pub reads_edge : (p : Passage) (input : List ℕ) (result : Result EdgeContents RunFault) → ReadWhole p most_input input → IsOutcome (entries_of input) result → ReadsEdge p result
reads_edge p input (Ok edge) read so = record { input = input; whole = read; short = so.0; stands = so.1 }
reads_edge p input (Err Refused) read so = absurd so
reads_edge p input (Err Read) read so = absurd so
reads_edge p input (Err Write) read so = absurd so
reads_edge p input (Err TooLarge) read so = absurd so
reads_edge p input (Err (EntryTooLong place)) read so = record { input = input; whole = read; first = so }
reads_edge p input (Err BadOrigin) read so = absurd so
reads_edge p input (Err BadIndex) read so = absurd so
reads_edge p input (Err BadOld) read so = absurd so
reads_edge p input (Err BadPath) read so = absurd so
reads_edge p input (Err NotThere) read so = absurd so
reads_edge p input (Err Malformed) read so = absurd so
reads_edge p input (Err (Chain place)) read so = absurd so
reads_edge p input (Err Sign) read so = absurd so
reads_edge p input (Err Operator) read so = absurd so
reads_edge p input (Err Listen) read so = absurd so
reads_edge p input (Err Accept) read so = absurd so
reads_edge p input (Err (Device place why)) read so = absurd so
reads_edge p input (Err BadName) read so = absurd so
reads_edge p input (Err BadKey) read so = absurd so
reads_edge p input (Err BadKeyFile) read so = absurd so
reads_edge p input (Err (NothingThere _)) read so = absurd so
reads_edge p input (Err (BadCheckpoint place)) read so = absurd so
reads_edge p input (Err (WrongSignature place)) read so = absurd so
reads_edge p input (Err Unverified) read so = absurd so
reads_edge p input (Err OutOfMemory) read so = read.steady
