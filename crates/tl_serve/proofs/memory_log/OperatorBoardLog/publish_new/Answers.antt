use Rattle.std.proofs.Common.{arith}
use Rattle.std.proofs.lemmas.Grind.{common_steps}
use Rattle.tl_serve.proofs.memory_log.OperatorBoardLog.publish_new.Goals as goal

pub returns-in-Err-NothingNew-clause-operating : goal.returns-in-Err-NothingNew-clause-operating
returns-in-Err-NothingNew-clause-operating g c = grind (arith, common_steps)

pub returns-in-Err-NothingNew-clause-shown : goal.returns-in-Err-NothingNew-clause-shown
returns-in-Err-NothingNew-clause-shown g c = grind (arith, common_steps)

pub returns-in-Err-OutOfMemory-clause-operating : goal.returns-in-Err-OutOfMemory-clause-operating
returns-in-Err-OutOfMemory-clause-operating g c = grind (arith, common_steps)

pub returns-in-Err-Quorum-clause-operating : goal.returns-in-Err-Quorum-clause-operating
returns-in-Err-Quorum-clause-operating g c = grind (arith, common_steps)

pub returns-in-Err-Sign-clause-operating : goal.returns-in-Err-Sign-clause-operating
returns-in-Err-Sign-clause-operating g c = grind (arith, common_steps)

pub returns-in-Ok-clause-operating : goal.returns-in-Ok-clause-operating
returns-in-Ok-clause-operating g c = grind (arith, common_steps)
