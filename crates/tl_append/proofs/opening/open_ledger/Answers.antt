use Rattle.std.proofs.Common.{arith}
use Rattle.std.proofs.lemmas.Grind.{common_steps}
use Rattle.tl_append.proofs.opening.open_ledger.Goals as goal

pub returns-in-Ok-check_mark-clause-newest : goal.returns-in-Ok-check_mark-clause-newest
returns-in-Ok-check_mark-clause-newest g c = grind (arith, common_steps)

pub returns-in-Ok-check_mark-clause-opens : goal.returns-in-Ok-check_mark-clause-opens
returns-in-Ok-check_mark-clause-opens g c = grind (arith, common_steps)

pub returns-in-Ok-check_mark-clause-shown : goal.returns-in-Ok-check_mark-clause-shown
returns-in-Ok-check_mark-clause-shown g c = grind (arith, common_steps)

pub returns-in-Ok-check_mark-clause-there : goal.returns-in-Ok-check_mark-clause-there
returns-in-Ok-check_mark-clause-there g c = grind (arith, common_steps)

pub returns-in-Ok-check_mark-clause-within : goal.returns-in-Ok-check_mark-clause-within
returns-in-Ok-check_mark-clause-within g c = grind (arith, common_steps)

pub returns-then-allows_older-clause-newest : goal.returns-then-allows_older-clause-newest
returns-then-allows_older-clause-newest g c = grind (arith, common_steps)

pub returns-then-allows_older-clause-opens : goal.returns-then-allows_older-clause-opens
returns-then-allows_older-clause-opens g c = grind (arith, common_steps)

pub returns-then-allows_older-clause-shown : goal.returns-then-allows_older-clause-shown
returns-then-allows_older-clause-shown g c = grind (arith, common_steps)

pub returns-then-allows_older-clause-there : goal.returns-then-allows_older-clause-there
returns-then-allows_older-clause-there g c = grind (arith, common_steps)

pub returns-then-allows_older-clause-within : goal.returns-then-allows_older-clause-within
returns-then-allows_older-clause-within g c = grind (arith, common_steps)
