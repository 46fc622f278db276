use Rattle.std.proofs.Common.{List, sym, subst, arith}
use Rattle.std.proofs.lemmas.Grind.{common_steps}
use Rattle.tl_note.specs.Note.{Signature}
use Rattle.tl_note.proofs.LineLemmas.{HasRead, reads_more, reads_all}
use Rattle.tl_note.proofs.parse.read_lines.Goals as goal

pub loop-line-preserved : goal.loop-line-preserved
loop-line-preserved g c =
    let done = c.loop-line.lines.items in
    let cut = c.in-Some.ensures in
    subst (λ (ls : List Signature). HasRead c.args.text.now ls c.in-Some.rest.now) (sym c.in_ok-push.ensures.items) (reads_more c.args.text.now c.loop-line.left.now c.in-Some.rest.now done c.in-Some.line c.loop-line.invariant cut.1 cut.0)

pub returns : goal.returns
returns g c = reads_all c.args.text.now c.loop-line.left.now c.loop-line.lines.items c.args.count c.loop-line.invariant (rw c.in_default.is at c.cut_line.ensures) c.requires

pub loop-line-init : goal.loop-line-init
loop-line-init g c = grind (arith, common_steps)

pub loop-line-smaller : goal.loop-line-smaller
loop-line-smaller g c = grind (arith, common_steps)
