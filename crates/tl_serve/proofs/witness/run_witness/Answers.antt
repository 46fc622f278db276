use Rattle.std.proofs.Common.{arith}
use Rattle.std.proofs.lemmas.Grind.{common_steps}
use Rattle.tl_serve.proofs.witness.run_witness.Goals as goal

pub returns-in-Listed : goal.returns-in-Listed
returns-in-Listed g c = grind (arith, common_steps)

pub returns-in-One : goal.returns-in-One
returns-in-One g c = grind (arith, common_steps)
