use Rattle.std.proofs.Common.{arith}
use Rattle.std.proofs.lemmas.Grind.{common_steps}
use Rattle.tl_http.proofs.body.read_sized.Goals as goal

pub returns-clause-decides : goal.returns-clause-decides
returns-clause-decides g c = grind (arith, common_steps)

pub returns-in-NoMemory-clause-decides : goal.returns-in-NoMemory-clause-decides
returns-in-NoMemory-clause-decides g c = grind (arith, common_steps)
