-- What is to come of an input, one cut further.
use Rattle.std.proofs.Common.{inl, inr, ◌≡◌, ℕ, ◌+◌, ◌-◌, ◌<◌, ◌≤◌, Bool, true, false, List, [], ◌∷◌, ◌++◌, length, take, drop, cond, refl, sym, ap, ◌∙◌, arith, subst, append_assoc, append-nil}
use Rattle.std.specs.Prelude.{Option, Some, None, is_some}
use Rattle.std.specs.Option.{unwrap_or}
use Rattle.std.proofs.lemmas.List.{length-append, length-drop, length-take, length-take-le, take-append-drop, take-take, take_all, drop-take, drop-drop, drop_all}
use Rattle.std.proofs.lemmas.List.Elements.{All-append, All-take}
use Rattle.tl_lines.specs.Lines.{Closes, Entry, HasNoNewline, HoldsNoLine, IsAtLine, Tells, Told, TooLong, Uncut, counted, lines_after, lines_of, one_more, to_come, told_of, unread}
use Rattle.tl_lines.specs.Inner.Cutting.{EndsAt, FindsNewline}
use Rattle.tl_lines.proofs.PieceLemmas.{IsOther, after_ended, after_plain, lines_ended, lines_plain, told_longer, told_short}

abbrev pub made : ℕ → ℕ → List ℕ → List ℕ → Bool → Uncut
made number entries begun waiting in_tail = record { number = number; entries = entries; begun = begun; waiting = waiting; in_tail = in_tail }

-- what was reported before, and what is reported then
counted_append : (entries : ℕ) (told later : List Told) → counted entries (told ++ later) ≡ counted (counted entries told) later
counted_append entries [] later = refl
counted_append entries (Entry line ∷ told) later = counted_append (one_more entries) told later
counted_append entries (TooLong number ∷ told) later = counted_append entries told later

pub tells_then : (u v w : Uncut) (read next : List ℕ) (told later : List Told) → Tells u v read told → Tells v w next later → Tells u w (read ++ next) (told ++ later)
tells_then u v w read next told later before after = record {
  first = λ more.
      ap (to_come u) (append_assoc read next more)
      ∙ before.first (next ++ more)
      ∙ ap (λ rest. told ++ rest) (after.first more)
      ∙ sym (append_assoc told later (to_come w more));
  entries = after.entries ∙ ap (λ entries. counted entries later) before.entries ∙ sym (counted_append u.entries told later);
}

pub tells_nothing : (u : Uncut) → Tells u u [] []
tells_nothing u = record { first = λ more. refl; entries = refl }

-- the rest of a line that is too long, up to its newline
pub tail_ended : (number entries end : ℕ) (waiting : List ℕ) → EndsAt waiting end
    → Tells (made number entries [] waiting true) (made (one_more number) entries [] (drop (end + 1) waiting) false) [] []
unfolding to_come
tail_ended number entries end waiting ends = record {
  first = λ more. ap (told_of (one_more number))
      (ap (λ bytes. lines_after (bytes ++ more)) ends.joined
      ∙ ap lines_after (append_assoc (take end waiting) (10 ∷ drop (end + 1) waiting) more)
      ∙ after_ended (take end waiting) (drop (end + 1) waiting ++ more) ends.plain);
  entries = refl;
}

-- all that there is of it
pub tail_on : (number entries : ℕ) (waiting : List ℕ) → HasNoNewline waiting → Tells (made number entries [] waiting true) (made number entries [] [] true) [] []
unfolding to_come
tail_on number entries waiting plain = record {
  first = λ more. ap (told_of (one_more number)) (after_plain waiting more plain);
  entries = refl;
}

-- a whole line
pub line_cut : (number entries end : ℕ) (begun waiting : List ℕ) → HasNoNewline begun → EndsAt waiting end → length begun + end ≤ 65535
    → Tells (made number entries begun waiting false) (made (one_more number) (one_more entries) [] (drop (end + 1) waiting) false) [] (Entry (begun ++ take end waiting) ∷ [])
unfolding to_come
line_cut number entries end begun waiting plain ends short =
    let line = begun ++ take end waiting in
    let rest = drop (end + 1) waiting in
    let size : length line ≤ 65535 = omega (arith, short, length-append begun (take end waiting), length-take-le end waiting (omega (arith, ends.within))) in
    record {
      first = λ more.
          ap (λ bytes. told_of number (lines_of ((begun ++ bytes) ++ more))) ends.joined
          ∙ ap (λ bytes. told_of number (lines_of (bytes ++ more))) (sym (append_assoc begun (take end waiting) (10 ∷ rest)))
          ∙ ap (λ bytes. told_of number (lines_of bytes)) (append_assoc line (10 ∷ rest) more)
          ∙ ap (told_of number) (lines_ended line (rest ++ more) (All-append IsOther begun (take end waiting) plain ends.plain))
          ∙ told_short number line (lines_of (rest ++ more)) size;
      entries = refl;
    }

-- a part of a line
pub line_part : (number entries : ℕ) (begun waiting : List ℕ) → Tells (made number entries begun waiting false) (made number entries (begun ++ waiting) [] false) [] []
unfolding to_come
line_part number entries begun waiting = record {
  first = λ more. ap (λ bytes. told_of number (lines_of (bytes ++ more))) (sym (append-nil (begun ++ waiting)));
  entries = refl;
}

-- a line that is too long
pub line_long : (number entries : ℕ) (begun waiting part rest : List ℕ) → HasNoNewline begun → HasNoNewline part → waiting ≡ part ++ rest
    → 65535 < length begun + length part
    → Tells (made number entries begun waiting false) (made number entries [] waiting true) [] (TooLong number ∷ [])
unfolding to_come
line_long number entries begun waiting part rest plain plain_part joined long = record {
  first = λ more.
      let here : waiting ++ more ≡ part ++ (rest ++ more) = ap (λ bytes. bytes ++ more) joined ∙ append_assoc part rest more in
      ap (λ bytes. told_of number (lines_of bytes)) (append_assoc begun waiting more ∙ ap (λ bytes. begun ++ bytes) here)
      ∙ told_longer number begun part (rest ++ more) plain plain_part long
      ∙ ap (λ bytes. TooLong number ∷ told_of (one_more number) (lines_after bytes)) (sym here);
  entries = refl;
}

-- the end of the input, within a line that is too long, within another, or at the beginning of a line
pub tail_closed : (number entries : ℕ) → Closes (made number entries [] [] true) (made (one_more number) entries [] [] false) []
unfolding to_come lines_of lines_after
tail_closed number entries = record {
  newline = 10 ∷ [];
  one = inr refl;
  lacked = refl;
  tells = record { first = λ more. refl; entries = refl };
  at_line = record { number = one_more number; lines = λ more. refl };
}

pub line_closed : (number entries : ℕ) (begun : List ℕ) → HasNoNewline begun → 0 < length begun → length begun ≤ 65535
    → Closes (made number entries begun [] false) (made (one_more number) (one_more entries) [] [] false) (Entry begun ∷ [])
unfolding to_come lines_of
line_closed number entries begun plain some short =
    let whole : begun ++ [] ≡ begun = append-nil begun in
    record {
      newline = 10 ∷ [];
      one = inr refl;
      lacked =
          ap (told_of number)
          (ap (λ bytes. lines_of (bytes ++ 10 ∷ [])) whole ∙ lines_ended begun [] plain ∙ sym (lines_plain begun plain some)
          ∙ ap lines_of (sym (append-nil begun) ∙ ap (λ bytes. bytes ++ []) (sym whole)));
      tells = record {
        first = λ more.
            ap (told_of number) (ap (λ bytes. lines_of (bytes ++ 10 ∷ more)) whole ∙ lines_ended begun more plain)
            ∙ told_short number begun (lines_of more) short;
        entries = refl;
      };
      at_line = record { number = one_more number; lines = λ more. refl };
    }

pub none_closed : (u : Uncut) → IsAtLine u → Closes u u []
none_closed u at = record { newline = []; one = inl refl; lacked = refl; tells = tells_nothing u; at_line = at }

-- a line begins
pub at_line : (number entries : ℕ) → IsAtLine (made number entries [] [] false)
unfolding to_come
at_line number entries = record { number = number; lines = λ more. refl }

-- the same of readers that are so
as_made : (u : Uncut) (begun : List ℕ) (in_tail : Bool) → u.begun ≡ begun → u.in_tail ≡ in_tail → u ≡ made u.number u.entries begun u.waiting in_tail
as_made u begun in_tail b t = ap (λ x. made u.number u.entries x u.waiting u.in_tail) b ∙ ap (λ x. made u.number u.entries begun u.waiting x) t

tells_as : (u v x y : Uncut) (read : List ℕ) (told : List Told) → u ≡ x → v ≡ y → Tells x y read told → Tells u v read told
tells_as u v x y read told p q tells = subst (λ (s : Uncut). Tells s v read told) (sym p) (subst (λ (s : Uncut). Tells x s read told) (sym q) tells)

pub tail_found : (u v : Uncut) (end : ℕ) → u.in_tail ≡ true → u.begun ≡ [] → EndsAt u.waiting end
    → v ≡ made (one_more u.number) u.entries u.begun (drop (end + 1) u.waiting) false → Tells u v [] []
tail_found u v end tail begun ends same =
    tells_as u v (made u.number u.entries [] u.waiting true) (made (one_more u.number) u.entries [] (drop (end + 1) u.waiting) false) [] []
    (as_made u [] true begun tail) (same ∙ ap (λ x. made (one_more u.number) u.entries x (drop (end + 1) u.waiting) false) begun)
    (tail_ended u.number u.entries end u.waiting ends)

pub tail_kept : (u v : Uncut) (count : ℕ) → u.in_tail ≡ true → u.begun ≡ [] → HasNoNewline u.waiting → count ≡ length u.waiting
    → v ≡ record u { waiting = drop count u.waiting } → Tells u v [] [] × (v.waiting ≡ [])
tail_kept u v count tail begun plain all same =
    let none : drop count u.waiting ≡ [] = drop_all count u.waiting (omega (arith, all)) in
    let now : v ≡ made u.number u.entries [] [] true = same ∙ ap (λ w. record u { waiting = w }) none ∙ as_made (record u { waiting = [] }) [] true begun tail in (
      tells_as u v (made u.number u.entries [] u.waiting true) (made u.number u.entries [] [] true) [] [] (as_made u [] true begun tail) now (tail_on u.number u.entries u.waiting plain),
      ap (λ (s : Uncut). s.waiting) now,
    )

pub cut_whole : (u v : Uncut) (end : ℕ) (told : Told) → u.in_tail ≡ false → HasNoNewline u.begun → EndsAt u.waiting end → length u.begun + end ≤ 65535
    → v ≡ made (one_more u.number) (one_more u.entries) [] (drop 1 (drop end u.waiting)) u.in_tail → told ≡ Entry (u.begun ++ take end u.waiting) → Tells u v [] (told ∷ [])
cut_whole u v end told off plain ends short same is =
    let now : v ≡ made (one_more u.number) (one_more u.entries) [] (drop (end + 1) u.waiting) false =
    same ∙ ap (λ w. made (one_more u.number) (one_more u.entries) [] w u.in_tail) (drop-drop 1 end u.waiting)
    ∙ ap (λ t. made (one_more u.number) (one_more u.entries) [] (drop (end + 1) u.waiting) t) off in
    subst (λ (t : Told). Tells u v [] (t ∷ [])) (sym is)
    (tells_as u v (made u.number u.entries u.begun u.waiting false) (made (one_more u.number) (one_more u.entries) [] (drop (end + 1) u.waiting) false) [] (Entry (u.begun ++ take end u.waiting) ∷ [])
    (as_made u u.begun false refl off) now (line_cut u.number u.entries end u.begun u.waiting plain ends short))

pub cut_long : (u v : Uncut) (count : ℕ) (told : Told) → u.in_tail ≡ false → HasNoNewline u.begun → HasNoNewline (take count u.waiting) → count ≤ length u.waiting
    → 65535 < length u.begun + count → v ≡ record u { begun = []; in_tail = true } → told ≡ TooLong u.number → Tells u v [] (told ∷ [])
cut_long u v count told off plain plain_part within long same is =
    let size = length-take-le count u.waiting within in
    subst (λ (t : Told). Tells u v [] (t ∷ [])) (sym is)
    (tells_as u v (made u.number u.entries u.begun u.waiting false) (made u.number u.entries [] u.waiting true) [] (TooLong u.number ∷ []) (as_made u u.begun false refl off) same
    (line_long u.number u.entries u.begun u.waiting (take count u.waiting) (drop count u.waiting) plain plain_part (sym (take-append-drop count u.waiting)) (omega (arith, long, size))))

pub cut_part : (u v : Uncut) (count : ℕ) → u.in_tail ≡ false → HasNoNewline u.begun → HasNoNewline u.waiting → count ≡ length u.waiting → length u.begun + count ≤ 65535
    → v ≡ record u { begun = u.begun ++ take count u.waiting; waiting = drop count u.waiting } → Tells u v [] [] × HoldsNoLine v
cut_part u v count off plain plain_part all short same =
    let whole : take count u.waiting ≡ u.waiting = take_all count u.waiting (omega (arith, all)) in
    let none : drop count u.waiting ≡ [] = drop_all count u.waiting (omega (arith, all)) in
    let now : v ≡ made u.number u.entries (u.begun ++ u.waiting) [] false =
    same ∙ ap (λ w. made u.number u.entries (u.begun ++ w) (drop count u.waiting) u.in_tail) whole
    ∙ ap (λ w. made u.number u.entries (u.begun ++ u.waiting) w u.in_tail) none ∙ ap (λ t. made u.number u.entries (u.begun ++ u.waiting) [] t) off in
    let holds : HoldsNoLine (made u.number u.entries (u.begun ++ u.waiting) [] false) = record {
      cut = refl;
      plain = All-append IsOther u.begun u.waiting plain plain_part;
      short = omega (arith, short, all, length-append u.begun u.waiting);
    } in (
      tells_as u v (made u.number u.entries u.begun u.waiting false) (made u.number u.entries (u.begun ++ u.waiting) [] false) [] [] (as_made u u.begun false refl off) now
          (line_part u.number u.entries u.begun u.waiting),
      subst HoldsNoLine (sym now) holds,
    )

-- how far the first line of a block goes
pub reach_within : (piece : List ℕ) (found : Option ℕ) (count : ℕ) → count ≡ unwrap_or found (length piece) → FindsNewline piece found → count ≤ length piece
reach_within piece None count is finds = omega (arith, is)
reach_within piece (Some end) count is finds = omega (arith, is, finds.within)

pub reach_plain : (piece : List ℕ) (found : Option ℕ) (count : ℕ) → count ≡ unwrap_or found (length piece) → FindsNewline piece found → HasNoNewline (take count piece)
reach_plain piece None count is finds = All-take IsOther count piece finds
reach_plain piece (Some end) count is finds = subst (λ (n : ℕ). HasNoNewline (take n piece)) (sym is) finds.plain

-- what is left of a block, some bytes on
pub waiting_length : (start end : ℕ) (block : List ℕ) → start ≤ end → end ≤ length block → length (take (end - start) (drop start block)) ≡ end - start
waiting_length start end block from within = length-take-le (end - start) (drop start block) (omega (arith, from, within, length-drop start block))

pub waiting_after : (start end count : ℕ) (block : List ℕ) → start + count ≤ end → take (end - (start + count)) (drop (start + count) block) ≡ drop count (take (end - start) (drop start block))
waiting_after start end count block within =
    let rest = end - (start + count) in
    let size : end - start ≡ count + rest = omega arith in
    sym (ap (λ n. drop count (take n (drop start block))) size ∙ drop-take count rest (drop start block) ∙ ap (take rest) (drop-drop count start block))

pub part_of : (start end count : ℕ) (block : List ℕ) → start + count ≤ end → take ((start + count) - start) (drop start block) ≡ take count (take (end - start) (drop start block))
part_of start end count block within =
    let size : (start + count) - start ≡ count = omega arith in
    ap (λ n. take n (drop start block)) size ∙ sym (take-take count (end - start) (drop start block) (omega (arith, within)))

-- a block was read
block_of : (number entries : ℕ) (begun waiting : List ℕ) (in_tail : Bool) → Tells (made number entries begun [] in_tail) (made number entries begun waiting in_tail) waiting []
unfolding to_come
block_of number entries begun waiting in_tail = record {
  first = λ more. ap (λ bytes. cond in_tail (told_of (one_more number) (lines_after bytes)) (told_of number (lines_of bytes)))
      (ap (λ bytes. bytes ++ (waiting ++ more)) (append-nil begun) ∙ sym (append_assoc begun waiting more));
  entries = refl;
}

pub block_read : (u v : Uncut) → u.waiting ≡ [] → v ≡ record u { waiting = v.waiting } → Tells u v v.waiting []
block_read u v none same =
    let base = block_of u.number u.entries u.begun v.waiting u.in_tail in
    let from = subst (λ (w : List ℕ). Tells (made u.number u.entries u.begun w u.in_tail) (made u.number u.entries u.begun v.waiting u.in_tail) v.waiting []) (sym none) base in
    subst (λ (x : Uncut). Tells u x v.waiting []) (sym same) from

-- nothing is to come at the beginning of a line
lines_of_nothing : lines_of [] ≡ []
unfolding lines_of
lines_of_nothing = refl

lines_of_newline : lines_of (10 ∷ []) ≡ [] ∷ []
unfolding lines_of
lines_of_newline = refl

pub none_to_come : (u : Uncut) → IsAtLine u → to_come u [] ≡ []
none_to_come u at = at.lines [] ∙ ap (told_of at.number) lines_of_nothing

-- there a newline is a line
pub newline_comes : (u : Uncut) → IsAtLine u → to_come u (10 ∷ []) ≡ to_come u [] → ⊥
newline_comes u at same =
    let some : Entry [] ∷ [] ≡ to_come u [] = sym (at.lines (10 ∷ []) ∙ ap (told_of at.number) lines_of_newline) ∙ same in
    let none : to_come u [] ≡ [] = none_to_come u at in
    absurd cc

-- if nothing is read there, a line begins then
first_nil : {X : Type 0} (xs ys : List X) → [] ≡ xs ++ ys → xs ≡ []
first_nil [] ys e = refl
first_nil (x ∷ xs) ys e = absurd cc

pub still_at_line : (u v : Uncut) (told : List Told) → Tells u v [] told → IsAtLine u → IsAtLine v
still_at_line u v told tells at =
    let none : told ≡ [] = first_nil told (to_come v []) (sym (none_to_come u at) ∙ tells.first []) in
    record {
      number = at.number;
      lines = λ more. sym (ap (λ ts. ts ++ to_come v more) none) ∙ sym (tells.first more) ∙ at.lines more;
    }

-- each line is reported
pub all_told : (v : Uncut) (read : List ℕ) (told : List Told) → Tells unread v read told → IsAtLine v → told ≡ told_of 0 (lines_of read)
unfolding to_come
all_told v read told tells at =
    sym (append-nil told) ∙ ap (λ ts. told ++ ts) (sym (none_to_come v at)) ∙ sym (tells.first [])
    ∙ ap (λ bytes. told_of 0 (lines_of bytes)) (append-nil read)

-- whether a newline was found
pub plain_if_none : (piece : List ℕ) (found : Option ℕ) (count : ℕ) → is_some found ≡ false → count ≡ unwrap_or found (length piece) → FindsNewline piece found → HasNoNewline piece × (count ≡ length piece)
plain_if_none piece None count none is finds = (finds, is)
plain_if_none piece (Some end) count none is finds = absurd cc

pub ends_if_some : (piece : List ℕ) (found : Option ℕ) (count : ℕ) → is_some found ≡ true → count ≡ unwrap_or found (length piece) → FindsNewline piece found → EndsAt piece count
ends_if_some piece None count some is finds = absurd cc
ends_if_some piece (Some end) count some is finds = subst (EndsAt piece) (sym is) finds

-- the end of an input whose block is cut
pub closed_tail : (u v : Uncut) → u.waiting ≡ [] → u.begun ≡ [] → u.in_tail ≡ true → v ≡ record u { number = one_more u.number; in_tail = false } → Closes u v []
closed_tail u v cut begun tail same =
    let from : u ≡ made u.number u.entries [] [] true = as_made u [] true begun tail ∙ ap (λ w. made u.number u.entries [] w true) cut in
    let to : v ≡ made (one_more u.number) u.entries [] [] false =
    same ∙ ap (λ b. made (one_more u.number) u.entries b u.waiting false) begun ∙ ap (λ w. made (one_more u.number) u.entries [] w false) cut in
    subst (λ (s : Uncut). Closes s v []) (sym from) (subst (λ (s : Uncut). Closes (made u.number u.entries [] [] true) s []) (sym to) (tail_closed u.number u.entries))

pub closed_line : (u v : Uncut) (told : Told) → u.waiting ≡ [] → u.in_tail ≡ false → HasNoNewline u.begun → 0 < length u.begun → length u.begun ≤ 65535
    → v ≡ made (one_more u.number) (one_more u.entries) [] u.waiting u.in_tail → told ≡ Entry u.begun → Closes u v (told ∷ [])
closed_line u v told cut off plain some short same is =
    let from : u ≡ made u.number u.entries u.begun [] false = as_made u u.begun false refl off ∙ ap (λ w. made u.number u.entries u.begun w false) cut in
    let to : v ≡ made (one_more u.number) (one_more u.entries) [] [] false =
    same ∙ ap (λ w. made (one_more u.number) (one_more u.entries) [] w u.in_tail) cut ∙ ap (λ t. made (one_more u.number) (one_more u.entries) [] [] t) off in
    let here = line_closed u.number u.entries u.begun plain some short in
    let told_so = subst (λ (t : Told). Closes (made u.number u.entries u.begun [] false) (made (one_more u.number) (one_more u.entries) [] [] false) (t ∷ [])) (sym is) here in
    subst (λ (s : Uncut). Closes s v (told ∷ [])) (sym from) (subst (λ (s : Uncut). Closes (made u.number u.entries u.begun [] false) s (told ∷ [])) (sym to) told_so)

pub closed_none : (u : Uncut) → u.waiting ≡ [] → u.in_tail ≡ false → u.begun ≡ [] → Closes u u []
closed_none u cut off begun =
    let same : u ≡ made u.number u.entries [] [] false = as_made u [] false begun off ∙ ap (λ w. made u.number u.entries [] w false) cut in
    none_closed u (subst IsAtLine (sym same) (at_line u.number u.entries))

pub nothing_in : {X : Type 0} (xs : List X) → length xs ≡ 0 → xs ≡ []
nothing_in [] none = refl
nothing_in (x ∷ xs) none = absurd (omega arith)

-- if nothing is left of a block, and if something is
pub nothing_waits : {P : Type 0} (start end : ℕ) (block waiting : List ℕ) → take (end - start) (drop start block) ≡ waiting → end ≤ start → 0 < length waiting → P
nothing_waits start end block waiting is past some = absurd (omega (arith, ap length is, length-take (end - start) (drop start block), past, some))

pub something_waits : {P : Type 0} (start end : ℕ) (block waiting : List ℕ)
    → take (end - start) (drop start block) ≡ waiting → start < end → end ≤ length block → waiting ≡ [] → P
something_waits start end block waiting is before within none =
    absurd (omega (arith, ap length is, waiting_length start end block (omega (arith, before)) within, before, ap length none))
