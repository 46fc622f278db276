use Rattle.std.proofs.Common.{arith}
use Rattle.std.proofs.lemmas.Grind.{common_steps}
use Rattle.tl_key.proofs.parts.push_tail.Goals as goal

pub invariant_of-encode_string-2 : goal.invariant_of-encode_string-2
invariant_of-encode_string-2 g c = grind (arith, common_steps)

pub returns-clause-fit : goal.returns-clause-fit
returns-clause-fit g c = grind (arith, common_steps)

pub returns-clause-text : goal.returns-clause-text
returns-clause-text g c = grind (arith, common_steps)
