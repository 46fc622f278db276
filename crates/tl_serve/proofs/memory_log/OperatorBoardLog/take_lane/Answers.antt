use Rattle.std.proofs.Common.{arith}
use Rattle.std.proofs.lemmas.Grind.{common_steps}
use Rattle.tl_serve.proofs.memory_log.OperatorBoardLog.take_lane.Goals as goal

pub returns-in-Err-clause-operating : goal.returns-in-Err-clause-operating
returns-in-Err-clause-operating g c = grind (arith, common_steps)

pub returns-in-Err-clause-taken : goal.returns-in-Err-clause-taken
returns-in-Err-clause-taken g c = grind (arith, common_steps)

pub returns-in-Ok-clause-operating : goal.returns-in-Ok-clause-operating
returns-in-Ok-clause-operating g c = grind (arith, common_steps)

pub returns-in-Ok-clause-taken : goal.returns-in-Ok-clause-taken
returns-in-Ok-clause-taken g c = grind (arith, common_steps)
