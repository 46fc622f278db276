use Rattle.std.proofs.Common.{arith}
use Rattle.std.proofs.lemmas.Grind.{common_steps}
use Rattle.tl_run.proofs.fault.RunFaultDisplay.fmt.Goals as goal

pub returns-in-Device-clause-writes : goal.returns-in-Device-clause-writes
returns-in-Device-clause-writes g c = grind (arith, common_steps)
