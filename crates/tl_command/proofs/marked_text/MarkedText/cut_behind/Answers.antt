use Rattle.std.proofs.Common.{List, ℕ, subst, sym, take}
use Rattle.tl_command.specs.Inner.Cuts.{AreMarks}
use Rattle.tl_command.proofs.Marks.{marks_before}
use Rattle.tl_command.proofs.marked_text.MarkedText.cut_behind.Goals as goal

pub returns-clause-front_marks : goal.returns-clause-front_marks
returns-clause-front_marks c =
    let self = c.args.self.now in
    subst (λ (t : List ℕ). AreMarks t self.base (take c.args.tiles self.ends.now)) (sym c.split_at.ensures.front)
    (marks_before c.args.tiles self.ends.now self.text.now self.base c.args.at c.requires.marks c.requires.noted c.requires.behind)
