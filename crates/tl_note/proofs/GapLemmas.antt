-- The end of a note's text: the last place with two newlines in a row.
use Rattle.std.proofs.Common.{◌≡◌, ℕ, suc, ◌+◌, ◌<◌, ◌≤◌, List, [], ◌∷◌, ◌++◌, length, take, drop, sym, ap, ◌∙◌, append_assoc, arith}
use Rattle.std.specs.Prelude.{◌≢◌}
use Rattle.std.specs.List.{flat_map}
use Rattle.std.proofs.lemmas.List.{length-append}
use Rattle.std.proofs.Math.Seq.{drop-append_seam, drop-append-add, take-append-add}
use Rattle.tl_note.specs.Note.{signature_line, HasNoNote}
use Rattle.tl_note.specs.Inner.Reading.{CutsText}
use Rattle.tl_note.proofs.OneNote.{NoGap, last_gap, lines_apart, note_whole}

-- no two newlines meet at this place
abbrev pub LacksGapAt : List ℕ → ℕ → Type 0
LacksGapAt s i = (rest : List ℕ) → drop i s ≢ 10 ∷ 10 ∷ rest

-- bytes without two newlines in a row are no note
pub no_note : (s : List ℕ) → ((i : ℕ) → i ≤ length s → LacksGapAt s i) → HasNoNote s
no_note s lacks text lines note =
    let front = note.readable.front in
    let rest : List ℕ = flat_map signature_line lines in
    let whole : s ≡ front ++ 10 ∷ 10 ∷ rest = note_whole s text lines note in
    lacks (length front) (omega (arith, ap length whole, length-append front (10 ∷ 10 ∷ rest))) rest (ap (drop (length front)) whole ∙ drop-append_seam front (10 ∷ 10 ∷ rest))

no_gap : (s : List ℕ) → ((i : ℕ) → i ≤ length s → LacksGapAt s i) → NoGap s
no_gap [] lacks = tt
no_gap (x ∷ []) lacks = tt
no_gap (x ∷ y ∷ rest) lacks =
    (λ a b. lacks 0 (omega arith) rest (ap (λ (c : ℕ). c ∷ y ∷ rest) a ∙ ap (λ (c : ℕ). 10 ∷ c ∷ rest) b), no_gap (y ∷ rest) (λ i le. lacks (suc i) (omega arith)))

-- the text that ends at the last place with two newlines in a row is the only one
pub cut_text : (s front rest text : List ℕ) → s ≡ front ++ 10 ∷ 10 ∷ rest → ((i : ℕ) → length front < i → i ≤ length s → LacksGapAt s i) → text ≡ take (length front + 1) s → CutsText s text rest
cut_text s front rest text whole lacks is =
    let ended : text ≡ front ++ 10 ∷ [] = is ∙ ap (take (length front + 1)) whole ∙ take-append-add front (10 ∷ 10 ∷ rest) 1 in
    let apart : NoGap (10 ∷ rest) = no_gap (10 ∷ rest) (λ i le more e. lacks (length front + suc i) (omega arith) (omega (arith, le, ap length whole, length-append front (10 ∷ 10 ∷ rest))) more (ap (drop (length front + suc i)) whole ∙ drop-append-add front (10 ∷ 10 ∷ rest) (suc i) ∙ e)) in
    record {
      whole = whole ∙ sym (append_assoc front (10 ∷ []) (10 ∷ rest)) ∙ ap (λ (t : List ℕ). t ++ 10 ∷ rest) (sym ended);
      only = λ t lines note.
          let cut = last_gap note.readable.front front (flat_map signature_line lines) rest (lines_apart lines note.each) apart (sym (note_whole s t lines note) ∙ whole) in
          (note.readable.ended ∙ ap (λ (f : List ℕ). f ++ 10 ∷ []) cut.0 ∙ sym ended, cut.1);
    }
