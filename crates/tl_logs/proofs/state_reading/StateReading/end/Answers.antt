use Rattle.std.proofs.Common.{arith}
use Rattle.std.proofs.lemmas.Grind.{common_steps}
use Rattle.tl_logs.proofs.state_reading.StateReading.end.Goals as goal

pub returns-clause-heads : goal.returns-clause-heads
returns-clause-heads g c = grind (arith, common_steps)
