use Rattle.std.proofs.Common.{◌≡◌, false, true, refl, subst, arith, All, map, string_bytes}
use Rattle.std.proofs.lemmas.List.{take_all}
use Rattle.tl_text.specs.Text.{IsOneLine}
use Rattle.tl_checkpoint.proofs.LinesLemmas.{all_more, all_fails}
use Rattle.tl_checkpoint.proofs.writing.are_lines.Goals as goal

pub returns-then-not-is_one_line : goal.returns-then-not-is_one_line
returns-then-not-is_one_line g c = (
  λ f. absurd cc,
  λ each. absurd (all_fails string_bytes IsOneLine c.args.texts.now c.loop-text.text-index c.text-item.result c.loop-text-test.true c.text-item.is
      (λ one. let t : false ≡ true = c.if-not-is_one_line.ensures.1 (rw c.deref.ensures one) in cc) each),
)

pub loop-text-preserved : goal.loop-text-preserved
loop-text-preserved g c =
    all_more string_bytes IsOneLine c.args.texts.now c.loop-text.text-index c.text-item.result c.loop-text-test.true c.text-item.is c.loop-text.invariant
    (rw c.deref.ensures at (c.if-not-is_one_line.ensures.0 refl))

pub returns : goal.returns
returns g c = (λ t. subst (λ (ts : _). All IsOneLine (map string_bytes ts)) (take_all c.loop-text.text-index c.args.texts.now (omega arith)) c.loop-text.invariant, λ each. refl)
