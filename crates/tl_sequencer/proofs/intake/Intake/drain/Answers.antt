use Rattle.std.proofs.Common.{arith}
use Rattle.std.proofs.lemmas.Grind.{common_steps}
use Rattle.tl_sequencer.proofs.intake.Intake.drain.Goals as goal

pub invariant_of-self : goal.invariant_of-self
invariant_of-self g c = grind (arith, common_steps)

pub returns-clause-drained : goal.returns-clause-drained
returns-clause-drained g c = grind (arith, common_steps)

pub returns-clause-log : goal.returns-clause-log
returns-clause-log g c = grind (arith, common_steps)
