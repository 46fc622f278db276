use Rattle.std.proofs.Common.{arith, ℕ, List, ◌∙◌, ◌++◌, ap, string_bytes, sym}
use Rattle.std.proofs.lemmas.Grind.{common_steps}
use Rattle.tl_feed.proofs.GivenLines.{joined_more, joined_same}
use Rattle.tl_feed.proofs.tally.Tally.text.Goals.{in-Some+in_ok-push_str, in_default}
use Rattle.tl_feed.proofs.tally.Tally.text.Goals as goal

pub loop-line-preserved : goal.loop-line-preserved
loop-line-preserved c =
    let is = rw (c.deref-line-items.ensures.value) at c.line-item.is in
    let within = rw (c.deref-line-items.ensures.value) at c.loop-line-test.true in
    elim c.match-line.branch [
      | in-Some+in_ok-push_str w ↦
          let so = joined_more c.args.self.now.lines.items c.loop-line.line-index c.line-item.result w.in-Some.line (omega (arith, within)) is w.in-Some.is in
          ap string_bytes w.text-is ∙ (w.in_ok-push_str.ensures.bytes ∙ (ap (λ (l : List ℕ). string_bytes c.loop-line.text ++ l) w.as_str.ensures.value ∙ (ap (λ (l : List ℕ). l ++ string_bytes w.in-Some.line) c.loop-line.invariant ∙ sym so)))
      | in_default w ↦
          let so = joined_same c.args.self.now.lines.items c.loop-line.line-index c.line-item.result (omega (arith, within)) is w.in_default.is in
          ap string_bytes w.text-is ∙ (c.loop-line.invariant ∙ sym so)
    ]

pub returns : goal.returns
returns c = grind (arith, common_steps)
