use Rattle.std.proofs.Common.{arith}
use Rattle.std.proofs.lemmas.Grind.{common_steps}
use Rattle.tl_fetch.proofs.run.print_asked.Goals as goal

pub returns-in-All-clause-refused : goal.returns-in-All-clause-refused
returns-in-All-clause-refused g c = grind (arith, common_steps)

pub returns-in-Entry-clause-refused : goal.returns-in-Entry-clause-refused
returns-in-Entry-clause-refused g c = grind (arith, common_steps)

pub returns-in-Head-clause-fair : goal.returns-in-Head-clause-fair
returns-in-Head-clause-fair g c = grind (arith, common_steps)

pub returns-in-Head-clause-refused : goal.returns-in-Head-clause-refused
returns-in-Head-clause-refused g c = grind (arith, common_steps)

pub returns-in-Proof-clause-refused : goal.returns-in-Proof-clause-refused
returns-in-Proof-clause-refused g c = grind (arith, common_steps)
