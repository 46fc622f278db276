use Rattle.std.proofs.Common.{arith}
use Rattle.std.proofs.lemmas.Grind.{common_steps}
use Rattle.tl_sequencer.proofs.lane.Lane.take.Goals as goal

pub returns-clause-most : goal.returns-clause-most
returns-clause-most g c = grind (arith, common_steps)

pub returns-clause-ring : goal.returns-clause-ring
returns-clause-ring g c = grind (arith, common_steps)

pub returns-clause-taken : goal.returns-clause-taken
returns-clause-taken g c = grind (arith, common_steps)
