use Rattle.std.proofs.Common.{arith}
use Rattle.std.proofs.lemmas.Grind.{common_steps}
use Rattle.tl_serve.proofs.running.Running.carry_out.Goals as goal

pub returns-in-Publish-clause-carried : goal.returns-in-Publish-clause-carried
returns-in-Publish-clause-carried g c = grind (arith, common_steps)

pub returns-in-Take-clause-carried : goal.returns-in-Take-clause-carried
returns-in-Take-clause-carried g c = grind (arith, common_steps)

pub returns-in-TellHead-clause-carried : goal.returns-in-TellHead-clause-carried
returns-in-TellHead-clause-carried g c = grind (arith, common_steps)

pub returns-in-TellInputEnded-clause-carried : goal.returns-in-TellInputEnded-clause-carried
returns-in-TellInputEnded-clause-carried g c = grind (arith, common_steps)

pub returns-in-TellTooLong-clause-carried : goal.returns-in-TellTooLong-clause-carried
returns-in-TellTooLong-clause-carried g c = grind (arith, common_steps)

pub returns-in-Wait-clause-carried : goal.returns-in-Wait-clause-carried
returns-in-Wait-clause-carried g c = grind (arith, common_steps)
