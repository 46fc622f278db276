use Rattle.std.proofs.Common.{◌-◌, ◌*◌, arith, sym, subst, take, ℕ}
use Rattle.tl_command.specs.Inner.Cuts.{AreWholeLines}
use Rattle.tl_command.proofs.Marks.{marked}
use Rattle.tl_command.proofs.marked_text.MarkedText.tiles_end.Goals as goal

pub overflow_sub-result : goal.overflow_sub-result
overflow_sub-result c =
    let mark = marked c.args.tiles c.args.self.now.ends.now c.args.self.now.text.now c.args.self.now.base c.requires.marks c.requires.noted in
    omega (arith, mark.above, c.mark.ensures)

pub returns : goal.returns
returns c =
    let mark = marked c.args.tiles c.args.self.now.ends.now c.args.self.now.text.now c.args.self.now.base c.requires.marks c.requires.noted in
    record {
      place = omega (arith, mark.above, c.mark.ensures);
      within = omega (arith, mark.within, c.mark.ensures);
      lines = subst (λ (n : ℕ). AreWholeLines (take (n - c.args.self.now.base) c.args.self.now.text.now) (c.args.tiles * 256)) (sym c.mark.ensures) mark.lines;
    }
