use Rattle.std.proofs.Common.{◌∙◌, ap}
use Rattle.tl_lines.specs.Lines.{Uncut}
use Rattle.tl_lines.proofs.ReadingLemmas.{end_read, held_short, read_more}
use Rattle.tl_lines.proofs.lines.Lines.next.Goals as goal

pub returns-in-Ok-false : goal.returns-in-Ok-false
returns-in-Ok-false g c =
    let at = c.loop-reads in
    let before = c.args.reader.now in
    let after = c.fill.new.reader in
    let cut = rw c.in-Ok-None.field-0-is at c.in-Ok-None.ensures in
    let end = rw c.in-Ok-false.field-0-test at (c.in-Ok-false.ensures.cut cut.1.cut) in
    end_read c.args.self.now at.self (g.R.Read.remaining before.device) (g.R.Read.remaining at.reader.device) before.failed at.reader.failed at._reads at.invariant
    c.next_in_block.new.self c.fill.new.self c.last.new.self (g.R.Read.remaining after.device) after.failed c.last.result
    cut.0 end (c.last.ensures.cut (ap (λ (x : Uncut). x.waiting) end.same ∙ cut.1.cut))

pub returns-in-Err : goal.returns-in-Err
returns-in-Err g c =
    let at = c.loop-reads in
    let before = c.args.reader.now in
    held_short c.args.self.now at.self (g.R.Read.remaining before.device) (g.R.Read.remaining at.reader.device) before.failed at.reader.failed at._reads at.invariant
    c.next_in_block.new.self c.in-Err.ensures.0 c.in-Err.ensures.1

pub loop-reads-preserved : goal.loop-reads-preserved
loop-reads-preserved g c =
    let at = c.loop-reads in
    let before = c.args.reader.now in
    let after = c.fill.new.reader in
    let cut = rw c.in-Ok-None.field-0-is at c.in-Ok-None.ensures in
    let block = rw c.in-Ok-true.field-0-test at (c.in-Ok-true.ensures.cut cut.1.cut) in
    read_more c.args.self.now at.self (g.R.Read.remaining before.device) (g.R.Read.remaining at.reader.device) before.failed at.reader.failed at._reads at.invariant
    c.next_in_block.new.self c.fill.new.self (g.R.Read.remaining after.device) after.failed cut.0 cut.1 block
