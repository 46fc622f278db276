use Rattle.std.proofs.Common.{List, ℕ, length, ap, subst, arith}
use Rattle.std.proofs.lemmas.Grind.{common_steps}
use Rattle.std.proofs.lemmas.List.{take_rest, length-drop}
use Rattle.tl_command.specs.Inner.Growing.{IsGrowing}
use Rattle.tl_command.proofs.WholeLines.{part_more}
use Rattle.tl_command.proofs.growing.Growing.take.Goals as goal

pub loop-at-preserved : goal.loop-at-preserved
loop-at-preserved g c =
    let piece = c.args.piece.now in
    let at = c.loop-at.at in
    let so_far = c.loop-at.invariant in
    let taken = c.in_ok-at.ensures in
    record {
      within = omega (arith, so_far.within, taken.within, ap length (take_rest piece at), length-drop at piece);
      size = omega (arith, so_far.size, taken.size);
      grows = λ input was. subst (λ (t : List ℕ). IsGrowing c.take_some.new.self t) (part_more input piece at c.in_ok-at.field-0) (taken.grows _ (so_far.grows input was));
    }

pub loop-at-init : goal.loop-at-init
loop-at-init g c = grind (arith, common_steps)

pub returns-clause-grows : goal.returns-clause-grows
returns-clause-grows g c = grind (arith, common_steps)
