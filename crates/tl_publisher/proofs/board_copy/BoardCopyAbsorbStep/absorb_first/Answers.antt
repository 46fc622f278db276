use Rattle.std.proofs.Common.{arith}
use Rattle.std.proofs.lemmas.Grind.{common_steps}
use Rattle.tl_publisher.proofs.board_copy.BoardCopyAbsorbStep.absorb_first.Goals as goal

pub invariant_of-self : goal.invariant_of-self
invariant_of-self g c = grind (arith, common_steps)

pub invariant_of-self-in-Some : goal.invariant_of-self-in-Some
invariant_of-self-in-Some g c = grind (arith, common_steps)

pub invariant_of-self-in_err-append-in-Some : goal.invariant_of-self-in_err-append-in-Some
invariant_of-self-in_err-append-in-Some g c = grind (arith, common_steps)

pub invariant_of-self-in_err-reserve-in-Some-2 : goal.invariant_of-self-in_err-reserve-in-Some-2
invariant_of-self-in_err-reserve-in-Some-2 g c = grind (arith, common_steps)

pub returns-in_err-reserve-in-Some-2-clause-succeeds : goal.returns-in_err-reserve-in-Some-2-clause-succeeds
returns-in_err-reserve-in-Some-2-clause-succeeds g c = grind (arith, common_steps)

pub returns-in_err-reserve-in-Some-clause-succeeds : goal.returns-in_err-reserve-in-Some-clause-succeeds
returns-in_err-reserve-in-Some-clause-succeeds g c = grind (arith, common_steps)

pub same-face : goal.same-face
same-face g c = grind (arith, common_steps)
