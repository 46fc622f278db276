-- A text of lines, and the places where each 256th of them ends.
use Rattle.std.proofs.Common.{◌≡◌, ℕ, zero, suc, ◌+◌, ◌-◌, ◌*◌, ◌≤◌, List, [], ◌∷◌, ◌++◌, length, get_or, take, drop, refl, sym, ap, subst, ◌∙◌, arith}
use Rattle.std.proofs.Math.Seq.{take-add}
use Rattle.std.proofs.lemmas.Grind.{flat_map-append}
use Rattle.std.proofs.lemmas.List.{drop-drop, drop-take, length-append, length-drop, length-take, take-take}
use Rattle.std.proofs.lemmas.List.Elements.{All-append}
use Rattle.tl_text.specs.Text.{line}
use Rattle.tl_command.specs.Inner.Cuts.{AreMarks, AreWholeLines, IsMark}
use Rattle.tl_command.specs.Inner.Growing.{BeginsWith}
use Rattle.tl_command.specs.Lines.{entries_of, HasNoNewline}
use Rattle.tl_command.proofs.Counting.{lines_cut, no_lines}
use Rattle.tl_command.proofs.WholeLines.{begins_back, begins_front, begins_more, begins_nothing, lines_before}

-- ---- one place

-- whole lines, and whole lines after them
pub whole_after : (text : List ℕ) (at more first next : ℕ) → AreWholeLines (take at text) first → AreWholeLines (take more (drop at text)) next
    → AreWholeLines (take (at + more) text) (first + next)
whole_after text at more first next was then = record {
  lines = was.lines ++ then.lines;
  whole = take-add at more text ∙ (λ i. was.whole i ++ then.whole i) ∙ sym (flat_map-append line was.lines then.lines);
  plain = All-append HasNoNewline was.lines then.lines was.plain then.plain;
  number = omega (arith, length-append was.lines then.lines, was.number, then.number);
}

mark_here : (text : List ℕ) (base : ℕ) → IsMark text base base 0
mark_here text base =
    let none : 0 ≡ base - base = omega arith in
    record { above = omega arith; within = omega arith; lines = subst (λ (n : ℕ). AreWholeLines (take n text) 0) none (no_lines text) }

mark_after : (text : List ℕ) (base end last first next : ℕ) → IsMark text base end first → IsMark (drop (end - base) text) end last next
    → IsMark text base last (first + next)
mark_after text base end last first next was then =
    let sum : (end - base) + (last - end) ≡ last - base = omega (arith, was.above, then.above) in
    record {
      above = omega (arith, was.above, then.above);
      within = omega (arith, was.above, was.within, then.within, length-drop (end - base) text);
      lines = subst (λ (n : ℕ). AreWholeLines (take n text) (first + next)) sum (whole_after text (end - base) (last - end) first next was.lines then.lines);
    }

-- ---- all places

-- this many tiles of lines end there
pub marked : (tiles : ℕ) (ends text : List ℕ) (base : ℕ) → AreMarks text base ends → tiles ≤ length ends → IsMark text base (get_or (base ∷ ends) tiles 0) (tiles * 256)
marked zero ends text base marks fits = let none : 0 ≡ 0 * 256 = omega arith in subst (λ (n : ℕ). IsMark text base base n) none (mark_here text base)
marked (suc tiles) [] text base marks fits = absurd (omega (arith, fits))
marked (suc tiles) (end ∷ ends) text base marks fits =
    let sum : 256 + tiles * 256 ≡ suc tiles * 256 = omega arith in
    subst (λ (n : ℕ). IsMark text base (get_or (end ∷ ends) tiles 0) n) sum
    (mark_after text base end (get_or (end ∷ ends) tiles 0) 256 (tiles * 256) marks.0 (marked tiles ends (drop (end - base) text) end marks.1 (omega (arith, fits))))

-- the places behind one, in the text behind it
pub marks_behind : (tiles : ℕ) (ends text : List ℕ) (base : ℕ) → AreMarks text base ends → tiles ≤ length ends
    → AreMarks (drop (get_or (base ∷ ends) tiles 0 - base) text) (get_or (base ∷ ends) tiles 0) (drop tiles ends)
marks_behind zero ends text base marks fits = let none : 0 ≡ base - base = omega arith in subst (λ (n : ℕ). AreMarks (drop n text) base ends) none marks
marks_behind (suc tiles) [] text base marks fits = absurd (omega (arith, fits))
marks_behind (suc tiles) (end ∷ ends) text base marks fits =
    let last = get_or (end ∷ ends) tiles 0 in
    let next = marked tiles ends (drop (end - base) text) end marks.1 (omega (arith, fits)) in
    let sum : (end - base) + (last - end) ≡ last - base = omega (arith, marks.0.above, next.above) in
    subst (λ (t : List ℕ). AreMarks t last (drop tiles ends)) (drop-drop (last - end) (end - base) text ∙ ap (λ (n : ℕ). drop n text) sum)
    (marks_behind tiles ends (drop (end - base) text) end marks.1 (omega (arith, fits)))

-- the places in the front of a text
pub marks_before : (tiles : ℕ) (ends text : List ℕ) (base at : ℕ) → AreMarks text base ends → tiles ≤ length ends → get_or (base ∷ ends) tiles 0 ≤ base + at
    → AreMarks (take at text) base (take tiles ends)
marks_before zero ends text base at marks fits behind = tt
marks_before (suc tiles) [] text base at marks fits behind = absurd (omega (arith, fits))
marks_before (suc tiles) (end ∷ ends) text base at marks fits behind =
    let next = marked tiles ends (drop (end - base) text) end marks.1 (omega (arith, fits)) in
    let sum : (end - base) + (at - (end - base)) ≡ at = omega (arith, marks.0.above, next.above, behind) in
    let left : take (at - (end - base)) (drop (end - base) text) ≡ drop (end - base) (take at text) =
    sym (drop-take (end - base) (at - (end - base)) text) ∙ ap (λ (n : ℕ). drop (end - base) (take n text)) sum in
    let same : take (end - base) text ≡ take (end - base) (take at text) = sym (take-take (end - base) at text (omega (arith, sum))) in (
      record {
        above = marks.0.above;
        within = omega (arith, marks.0.above, marks.0.within, next.above, behind, length-take at text);
        lines = subst (λ (t : List ℕ). AreWholeLines t 256) same marks.0.lines;
      },
      subst (λ (t : List ℕ). AreMarks t end (take tiles ends)) left
          (marks_before tiles ends (drop (end - base) text) end (at - (end - base)) marks.1 (omega (arith, fits)) (omega (arith, sum, marks.0.above, behind))),
    )

-- one place more
pub marks_push : (ends text : List ℕ) (base next : ℕ) → AreMarks text base ends
    → IsMark (drop (get_or (base ∷ ends) (length ends) 0 - base) text) (get_or (base ∷ ends) (length ends) 0) next 256 → AreMarks text base (ends ++ next ∷ [])
marks_push [] text base next marks last = let none : base - base ≡ 0 = omega arith in (subst (λ (n : ℕ). IsMark (drop n text) base next 256) none last, tt)
marks_push (end ∷ ends) text base next marks last =
    let here = get_or (end ∷ ends) (length ends) 0 in
    let was = marked (length ends) ends (drop (end - base) text) end marks.1 (omega arith) in
    let sum : (end - base) + (here - end) ≡ here - base = omega (arith, marks.0.above, was.above) in (
      marks.0,
      marks_push ends (drop (end - base) text) end next marks.1
          (subst (λ (t : List ℕ). IsMark t here next 256) (sym (drop-drop (here - end) (end - base) text ∙ ap (λ (n : ℕ). drop n text) sum)) last),
    )

-- ---- a cut

-- the lines up to a place after this many tiles
pub lines_behind : (text : List ℕ) (at first left more count : ℕ) → AreWholeLines (take at text) first → left ≡ count - first → first ≤ count
    → AreWholeLines (take more (drop at text)) left → AreWholeLines (take (at + more) text) count
lines_behind text at first left more count was is within then =
    let sum : first + left ≡ count = omega (arith, is, within) in
    subst (λ (n : ℕ). AreWholeLines (take (at + more) text) n) sum (whole_after text at more first left was then)

-- fewer lines than are looked for behind a place
pub fewer_behind : (text : List ℕ) (at first left count : ℕ) → AreWholeLines (take at text) first → left ≡ count - first → first ≤ count
    → length (entries_of (drop at text)) ≤ left → length (entries_of text) ≤ count
fewer_behind text at first left count was is within few =
    omega (arith, ap length (lines_cut text at first was), length-append was.lines (entries_of (drop at text)), was.number, is, within, few)

-- ---- marking

-- this many tiles of lines of a text are marked, none of which is too long, and the rest follows them
pub record IsMarked (text ends rest : List ℕ) : Type 0 where
  pub marks : AreMarks text 0 ends
  pub lines : List (List ℕ)
  pub begins : BeginsWith text lines rest
  pub number : length lines ≡ length ends * 256
  pub last : get_or (0 ∷ ends) (length ends) 0 ≡ length text - length rest

pub marked_none : (ends text : List ℕ) → ends ≡ [] → IsMarked text ends text
marked_none ends text none =
    let zero : 0 ≡ length text - length text = omega arith in
    subst (λ (es : List ℕ). IsMarked text es text) (sym none)
    (record { marks = tt; lines = []; begins = begins_nothing text; number = omega arith; last = zero })

last_pushed : (ends : List ℕ) (first next : ℕ) → get_or (first ∷ (ends ++ next ∷ [])) (length (ends ++ next ∷ [])) 0 ≡ next
last_pushed [] first next = refl
last_pushed (end ∷ ends) first next = last_pushed ends end next

-- the place where the next 256 lines end
next_mark : (text ends rest after : List ℕ) (tile : List (List ℕ)) (next : ℕ) → IsMarked text ends rest → BeginsWith rest tile after → length tile ≡ 256
    → next ≡ length text - length after → IsMark (drop (get_or (0 ∷ ends) (length ends) 0 - 0) text) (get_or (0 ∷ ends) (length ends) 0) next 256
next_mark text ends rest after tile next was begins count is =
    let here = get_or (0 ∷ ends) (length ends) 0 in
    let all = lines_before text was.lines rest was.begins in
    let before = lines_before rest tile after begins in
    let zero : length text - length rest ≡ here - 0 = omega (arith, was.last) in
    let left : rest ≡ drop (here - 0) text = begins_back text was.lines rest was.begins ∙ ap (λ (n : ℕ). drop n text) zero in
    let sum : length rest - length after ≡ next - here = omega (arith, is, was.last, all, before) in
    record {
      above = omega (arith, is, was.last, all, before);
      within = omega (arith, is, was.last, all, before, ap length left);
      lines = subst (λ (t : List ℕ). AreWholeLines (take (next - here) t) 256) left
          (record { lines = tile; whole = ap (λ (n : ℕ). take n rest) (sym sum) ∙ begins_front rest tile after begins; plain = begins.plain; number = count });
    }

pub marked_more : (text ends rest pushed after : List ℕ) (tile : List (List ℕ)) (next : ℕ) → IsMarked text ends rest → BeginsWith rest tile after → length tile ≡ 256
    → next ≡ length text - length after → pushed ≡ ends ++ next ∷ [] → IsMarked text pushed after
marked_more text ends rest pushed after tile next was begins count is e =
    subst (λ (es : List ℕ). IsMarked text es after) (sym e) (record {
      marks = marks_push ends text 0 next was.marks (next_mark text ends rest after tile next was begins count is);
      lines = was.lines ++ tile;
      begins = begins_more text rest after was.lines tile was.begins begins;
      number = omega (arith, length-append was.lines tile, length-append ends (next ∷ []), was.number, count);
      last = last_pushed ends 0 next ∙ is;
    })
