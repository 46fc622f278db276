use Rattle.std.proofs.Common.{ap, arith, length, refl, Some, None}
use Rattle.std.specs.Prelude.{IfNone, Option}
use Rattle.std.proofs.lemmas.List.{length-drop, take_rest}
use Rattle.tl_command.proofs.Counting.{lines_fewer, lines_more}
use Rattle.tl_command.proofs.text.lines_end.Goals as goal

if_none : {X : Type 0} (found : Option X) (P : Type 0) → P → IfNone found P
if_none None P holds = holds
if_none (Some x) P holds = tt

pub returns-in_err-newline-clause-fewer : goal.returns-in_err-newline-clause-fewer
returns-in_err-newline-clause-fewer c =
    let few = lines_fewer c.args.text.now c.loop-line.at c.loop-line._line _ refl c.loop-line.invariant.lines c.in_err-newline.ensures in
    if_none c.from_residual.result _ (omega (arith, few, c.loop-line-test.true))

pub loop-line-preserved : goal.loop-line-preserved
loop-line-preserved c =
    let found = c.in_ok-newline.ensures in
    let rest = ap length (take_rest c.args.text.now c.loop-line.at) in
    record {
      within = omega (arith, found.0.high, rest, length-drop c.loop-line.at c.args.text.now, c.loop-line.invariant.within);
      lines = lines_more c.args.text.now c.loop-line.at c.in_ok-newline.newline c.loop-line._line _ refl c.loop-line.invariant.lines found.0.high found.1 found.0.before;
    }
