use Rattle.std.proofs.Common.{arith, ◌∙◌, sym}
use Rattle.std.proofs.lemmas.Grind.{common_steps}
use Rattle.tl_feed.proofs.GivenLines.{counted_more, counted_same}
use Rattle.tl_feed.proofs.tally.Tally.count.Goals.{then-is_some, else-is_some}
use Rattle.tl_feed.proofs.tally.Tally.count.Goals as goal

pub loop-line-preserved : goal.loop-line-preserved
loop-line-preserved c =
    let is = rw (c.deref-line-items.ensures.value) at c.line-item.is in
    let within = rw (c.deref-line-items.ensures.value) at c.loop-line-test.true in
    elim c.if-is_some.branch [
      | then-is_some w ↦
          let so = counted_more c.args.self.now.lines.items c.loop-line.line-index c.line-item.result (omega (arith, within)) is (sym c.is_some.ensures ∙ w.if-is_some.true) in
          (omega (arith, so, w.count-is, c.loop-line.invariant), omega (arith, w.count-is, c.loop-line.invariant))
      | else-is_some w ↦
          let so = counted_same c.args.self.now.lines.items c.loop-line.line-index c.line-item.result (omega (arith, within)) is (sym c.is_some.ensures ∙ w.if-is_some.false) in
          (omega (arith, so, w.count-is, c.loop-line.invariant), omega (arith, w.count-is, c.loop-line.invariant))
    ]

pub returns : goal.returns
returns c = grind (arith, common_steps)
