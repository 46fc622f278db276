use Rattle.std.proofs.Common.{◌≡◌, ◌-◌, ◌*◌, ◌∙◌, ℕ, List, ap, arith, drop, subst, sym, take}
use Rattle.tl_command.specs.Inner.Cuts.{AreMarks}
use Rattle.tl_command.specs.Lines.{entries_of}
use Rattle.tl_command.proofs.Counting.{cut_back, cut_front}
use Rattle.tl_command.proofs.Marks.{marks_before, marks_behind}
use Rattle.tl_command.proofs.marked_text.MarkedText.cut_at.Goals as goal

pub returns-clause-front : goal.returns-clause-front
returns-clause-front c =
    ap entries_of c.split_at.ensures.front ∙ cut_front c.args.self.now.text.now c.tiles_end.result (c.args.tiles * 256) c.tiles_end.ensures.lines

pub returns-clause-back : goal.returns-clause-back
returns-clause-back c =
    ap entries_of c.split_at.ensures.back ∙ cut_back c.args.self.now.text.now c.tiles_end.result (c.args.tiles * 256) c.tiles_end.ensures.lines

pub returns-clause-front_marks : goal.returns-clause-front_marks
returns-clause-front_marks c =
    let self = c.args.self.now in
    let marks = marks_before c.args.tiles self.ends.now self.text.now self.base c.tiles_end.result c.requires.marks c.requires.noted (omega (arith, c.tiles_end.ensures.place)) in
    subst (λ (t : List ℕ). AreMarks t self.base c.split_at-2.result.0.now) (sym c.split_at.ensures.front)
    (subst (λ (es : List ℕ). AreMarks (take c.tiles_end.result self.text.now) self.base es) (sym c.split_at-2.ensures.front) marks)

pub returns-clause-back_marks : goal.returns-clause-back_marks
returns-clause-back_marks c =
    let self = c.args.self.now in
    let mark = c.mark.result in
    let at : mark - self.base ≡ c.tiles_end.result = omega (arith, c.tiles_end.ensures.place, c.mark.ensures) in
    let marks = subst (λ (n : ℕ). AreMarks (drop (n - self.base) self.text.now) n (drop c.args.tiles self.ends.now)) (sym c.mark.ensures)
    (marks_behind c.args.tiles self.ends.now self.text.now self.base c.requires.marks c.requires.noted) in
    subst (λ (t : List ℕ). AreMarks t mark c.split_at-2.result.1.now) (ap (λ (n : ℕ). drop n self.text.now) at ∙ sym c.split_at.ensures.back)
    (subst (λ (es : List ℕ). AreMarks (drop (mark - self.base) self.text.now) mark es) (sym c.split_at-2.ensures.back) marks)
