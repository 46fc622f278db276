use Rattle.std.proofs.Common.{arith}
use Rattle.std.proofs.lemmas.Grind.{common_steps}
use Rattle.tl_server.proofs.fields.length_in.Goals as goal

pub returns-in-Some-2 : goal.returns-in-Some-2
returns-in-Some-2 c = grind (arith, common_steps)

pub values_in-requires-2 : goal.values_in-requires-2
values_in-requires-2 c = grind (arith, common_steps)
