use Rattle.std.proofs.Common.{arith}
use Rattle.std.proofs.lemmas.Grind.{common_steps}
use Rattle.tl_serve.proofs.witness.printed_chains.Goals as goal

pub returns-in-Err-Malformed : goal.returns-in-Err-Malformed
returns-in-Err-Malformed g c = grind (arith, common_steps)

pub returns-in-Ok : goal.returns-in-Ok
returns-in-Ok g c = grind (arith, common_steps)
