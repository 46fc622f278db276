use Rattle.std.proofs.Common.{arith}
use Rattle.std.proofs.lemmas.Grind.{common_steps}
use Rattle.tl_sequencer.proofs.opening.open.Goals as goal

pub open_from-requires-clause-short : goal.open_from-requires-clause-short
open_from-requires-clause-short g c = grind (arith, common_steps)

pub returns-in-Ok-clause-opened : goal.returns-in-Ok-clause-opened
returns-in-Ok-clause-opened g c = grind (arith, common_steps)
