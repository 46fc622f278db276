use Rattle.std.proofs.Common.{arith}
use Rattle.std.proofs.lemmas.Grind.{common_steps}
use Rattle.tl_serve.proofs.serve.run_serve.Goals as goal

pub returns-in_default : goal.returns-in_default
returns-in_default g c = grind (arith, common_steps)

pub returns-then-not-is_key_name : goal.returns-then-not-is_key_name
returns-then-not-is_key_name g c = grind (arith, common_steps)
