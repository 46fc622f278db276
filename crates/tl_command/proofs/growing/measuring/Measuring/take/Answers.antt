use Rattle.std.proofs.Common.{List, ℕ, length, ap, subst, arith}
use Rattle.std.proofs.lemmas.Grind.{common_steps}
use Rattle.std.proofs.lemmas.List.{take_rest, length-drop}
use Rattle.tl_command.specs.Inner.Measuring.{IsMeasuring}
use Rattle.tl_command.proofs.WholeLines.{part_more}
use Rattle.tl_command.proofs.growing.measuring.Measuring.take.Goals as goal

pub loop-at-preserved : goal.loop-at-preserved
loop-at-preserved g c =
    let piece = c.args.piece.now in
    let at = c.loop-at.at in
    let so_far = c.loop-at.invariant in
    let taken = c.in_ok-at.ensures in
    record {
      within = omega (arith, so_far.within, taken.within, ap length (take_rest piece at), length-drop at piece);
      few = taken.few;
      size = omega (arith, so_far.size, taken.size);
      measures = λ input was. subst (λ (t : List ℕ). IsMeasuring c.take_some.new.self t) (part_more input piece at c.in_ok-at.field-0) (taken.measures _ (so_far.measures input was));
    }

pub loop-at-init : goal.loop-at-init
loop-at-init g c = grind (arith, common_steps)

pub returns-clause-measures : goal.returns-clause-measures
returns-clause-measures g c = grind (arith, common_steps)
