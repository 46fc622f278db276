use Rattle.std.proofs.Common.{◌≡◌, ◌+◌, ◌-◌, ◌*◌, ◌≤◌, ◌∙◌, List, ℕ, ap, arith, drop, length, refl, subst, take}
use Rattle.std.proofs.lemmas.Grind.{common_steps}
use Rattle.std.proofs.lemmas.List.{length-drop, take_rest}
use Rattle.tl_command.specs.Inner.Cuts.{AreWholeLines}
use Rattle.tl_command.specs.Lines.{entries_of}
use Rattle.tl_command.proofs.Counting.{all_front, cut_back, cut_front, no_back}
use Rattle.tl_command.proofs.Marks.{fewer_behind, lines_behind}
use Rattle.tl_command.proofs.marked_text.MarkedText.split.Goals as goal

pub cut_behind-requires-clause-within : goal.cut_behind-requires-clause-within
cut_behind-requires-clause-within c =
    omega (arith, c.in-Some.ensures.within, ap length (take_rest c.args.self.now.text.now c.tiles_end-at.result), length-drop c.tiles_end-at.result c.args.self.now.text.now, c.tiles_end-at.ensures.within)

-- the lines before the cut
whole : (text : List ℕ) (at tiles left more count : ℕ) → AreWholeLines (take at text) (tiles * 256) → left ≡ count - tiles * 256 → tiles * 256 ≤ count
    → AreWholeLines (take more (take (length text - at) (drop at text))) left → AreWholeLines (take (at + more) text) count
whole text at tiles left more count was is within then =
    lines_behind text at (tiles * 256) left more count was is within (subst (λ (t : List ℕ). AreWholeLines (take more t) left) (take_rest text at) then)

few : (text : List ℕ) (at tiles left count : ℕ) → AreWholeLines (take at text) (tiles * 256) → left ≡ count - tiles * 256 → tiles * 256 ≤ count
    → length (entries_of (take (length text - at) (drop at text))) ≤ left → length (entries_of text) ≤ count
few text at tiles left count was is within fewer =
    fewer_behind text at (tiles * 256) left count was is within (subst (λ (t : List ℕ). length (entries_of t) ≤ left) (take_rest text at) fewer)

pub returns-in-Some-clause-front : goal.returns-in-Some-clause-front
returns-in-Some-clause-front c =
    let text = c.args.self.now.text.now in
    let at = c.tiles_end-at.result in
    ap entries_of c.cut_behind.ensures.front
    ∙ cut_front text (at + c.in-Some.more) c.args.count (whole text at c.min-tiles.result _ c.in-Some.more c.args.count c.tiles_end-at.ensures.lines refl (omega (arith, c.min-tiles.ensures)) c.in-Some.ensures.lines)

pub returns-in-Some-clause-back : goal.returns-in-Some-clause-back
returns-in-Some-clause-back c =
    let text = c.args.self.now.text.now in
    let at = c.tiles_end-at.result in
    ap entries_of c.cut_behind.ensures.back
    ∙ cut_back text (at + c.in-Some.more) c.args.count (whole text at c.min-tiles.result _ c.in-Some.more c.args.count c.tiles_end-at.ensures.lines refl (omega (arith, c.min-tiles.ensures)) c.in-Some.ensures.lines)

pub returns-in-None-clause-front : goal.returns-in-None-clause-front
returns-in-None-clause-front c =
    let text = c.args.self.now.text.now in
    ap entries_of c.cut_behind-in-None.ensures.front
    ∙ all_front text c.args.count (few text c.tiles_end-at.result c.min-tiles.result _ c.args.count c.tiles_end-at.ensures.lines refl (omega (arith, c.min-tiles.ensures)) c.in-None.ensures.fewer)

pub returns-in-None-clause-back : goal.returns-in-None-clause-back
returns-in-None-clause-back c =
    let text = c.args.self.now.text.now in
    ap entries_of c.cut_behind-in-None.ensures.back
    ∙ no_back text c.args.count (few text c.tiles_end-at.result c.min-tiles.result _ c.args.count c.tiles_end-at.ensures.lines refl (omega (arith, c.min-tiles.ensures)) c.in-None.ensures.fewer)

pub returns-in-None-clause-bytes : goal.returns-in-None-clause-bytes
returns-in-None-clause-bytes c = grind (arith, common_steps)

pub returns-in-Some-clause-bytes : goal.returns-in-Some-clause-bytes
returns-in-Some-clause-bytes c = grind (arith, common_steps)
