use Rattle.std.proofs.Common.{◌≡◌, ◌++◌, ◌∷◌, List, ℕ, take, drop, sym, ap, ◌∙◌, arith}
use Rattle.tl_note.proofs.GapLemmas.{no_note, cut_text}
use Rattle.std.proofs.lemmas.List.{take-append-drop}
use Rattle.tl_note.proofs.parse.cut_text.Goals as goal

pub returns-in_default : goal.returns-in_default
returns-in_default c = no_note c.args.message.now c.in_default.ensures.cases

pub returns : goal.returns
returns c =
    let s = c.args.message.now in
    let at = c.in-Some.ensures.cases in
    let whole : s ≡ c.in-Some.front.now ++ 10 ∷ 10 ∷ c.in-Some.lines.now = sym (take-append-drop at.0 s) ∙ ap (λ (t : List ℕ). t ++ drop at.0 s) (sym at.3) ∙ ap (λ (t : List ℕ). c.in-Some.front.now ++ t) (at.2.1.split ∙ ap (λ (t : List ℕ). 10 ∷ 10 ∷ t) (sym at.4)) in
    cut_text s c.in-Some.front.now c.in-Some.lines.now c.range.result.now whole (λ i lt le. at.2.0 i (omega (arith, at.6)) le) (c.range.ensures.value ∙ ap (λ (n : ℕ). take n s) (omega arith))
