use Rattle.std.proofs.Common.{◌++◌, List, ℕ, length, ap, subst, arith}
use Rattle.std.proofs.lemmas.Grind.{common_steps}
use Rattle.std.proofs.lemmas.List.{take_all, take_rest, length-drop}
use Rattle.tl_command.specs.Inner.Growing.{IsGrowing}
use Rattle.tl_command.proofs.WholeLines.{part_more}
use Rattle.tl_command.proofs.growing.Growing.take_block.Goals as goal

pub loop-at-preserved : goal.loop-at-preserved
loop-at-preserved g c =
    let block = c.args.block.now in
    let at = c.loop-at.at in
    let so_far = c.loop-at.invariant in
    let taken = c.in_ok-at.ensures in
    record {
      within = omega (arith, so_far.within, taken.within, ap length (take_rest block at), length-drop at block);
      size = omega (arith, so_far.size, taken.size);
      grows = λ input was. subst (λ (t : List ℕ). IsGrowing c.take_share.new.self t) (part_more input block at c.in_ok-at.field-0) (taken.grows _ (so_far.grows input was));
    }

pub returns-clause-grows : goal.returns-clause-grows
returns-clause-grows g c = λ input was.
    subst (λ (t : List ℕ). IsGrowing c.loop-at.self (input ++ t)) (take_all c.loop-at.at c.args.block.now (omega (arith, c.loop-at-test.false))) (c.loop-at.invariant.grows input was)

pub loop-at-init : goal.loop-at-init
loop-at-init g c = grind (arith, common_steps)

pub loop-at-smaller : goal.loop-at-smaller
loop-at-smaller g c = grind (arith, common_steps)
