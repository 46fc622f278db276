use Rattle.std.proofs.Common.{arith}
use Rattle.std.proofs.lemmas.Grind.{common_steps}
use Rattle.tl_serve.proofs.serve.serve_gated.Goals as goal

pub returns : goal.returns
returns g c = grind (arith, common_steps)

pub returns-in-Some : goal.returns-in-Some
returns-in-Some g c = grind (arith, common_steps)

pub returns-then-not-is_key_name : goal.returns-then-not-is_key_name
returns-then-not-is_key_name g c = grind (arith, common_steps)

pub shared_whole_as_slice-serve_resumed : goal.shared_whole_as_slice-serve_resumed
shared_whole_as_slice-serve_resumed g c = grind (arith, common_steps)
