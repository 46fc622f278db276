use Rattle.std.proofs.Common.{arith}
use Rattle.std.proofs.lemmas.Grind.{common_steps}
use Rattle.tl_server.proofs.posted.posted_of.Goals as goal

pub length_in-requires-clause-within : goal.length_in-requires-clause-within
length_in-requires-clause-within c = grind (arith, common_steps)

pub returns-in-Is : goal.returns-in-Is
returns-in-Is c = grind (arith, common_steps)

pub returns-in-TooLarge : goal.returns-in-TooLarge
returns-in-TooLarge c = grind (arith, common_steps)
