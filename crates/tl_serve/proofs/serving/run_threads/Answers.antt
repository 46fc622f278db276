use Rattle.std.proofs.Common.{arith}
use Rattle.std.proofs.lemmas.Grind.{common_steps}
use Rattle.tl_serve.proofs.serving.run_threads.Goals as goal

pub drive_rest-requires-clause-holds : goal.drive_rest-requires-clause-holds
drive_rest-requires-clause-holds g c = grind (arith, common_steps)

pub returns : goal.returns
returns g c = grind (arith, common_steps)

pub returns-in_err-answering : goal.returns-in_err-answering
returns-in_err-answering g c = grind (arith, common_steps)

pub returns-in_err-sent : goal.returns-in_err-sent
returns-in_err-sent g c = grind (arith, common_steps)
