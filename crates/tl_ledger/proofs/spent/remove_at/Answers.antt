use Rattle.std.proofs.Common.{arith}
use Rattle.std.proofs.lemmas.Grind.{common_steps}
use Rattle.tl_ledger.proofs.spent.remove_at.Goals as goal

pub returns-clause-sheds : goal.returns-clause-sheds
returns-clause-sheds g c = grind (arith, common_steps)

pub returns-in_err-remove_partials-2-clause-sheds : goal.returns-in_err-remove_partials-2-clause-sheds
returns-in_err-remove_partials-2-clause-sheds g c = grind (arith, common_steps)

pub returns-then-level-ne0-clause-sheds : goal.returns-then-level-ne0-clause-sheds
returns-then-level-ne0-clause-sheds g c = grind (arith, common_steps)
