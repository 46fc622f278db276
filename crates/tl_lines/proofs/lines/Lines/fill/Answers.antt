use Rattle.std.proofs.Common.{arith}
use Rattle.std.proofs.lemmas.Grind.{common_steps}
use Rattle.tl_lines.proofs.lines.Lines.fill.Goals as goal

pub invariant_of-self : goal.invariant_of-self
invariant_of-self g c = grind (arith, common_steps)

pub invariant_of-self-2 : goal.invariant_of-self-2
invariant_of-self-2 g c = grind (arith, common_steps)

pub returns-clause-cut : goal.returns-clause-cut
returns-clause-cut g c = grind (arith, common_steps)

pub returns-clause-uncut : goal.returns-clause-uncut
returns-clause-uncut g c = grind (arith, common_steps)

pub returns-in_default-clause-uncut : goal.returns-in_default-clause-uncut
returns-in_default-clause-uncut g c = grind (arith, common_steps)

pub returns-then-self-clause-cut : goal.returns-then-self-clause-cut
returns-then-self-clause-cut g c = grind (arith, common_steps)
