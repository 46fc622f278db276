use Rattle.std.proofs.Common.{arith}
use Rattle.std.proofs.lemmas.Grind.{common_steps}
use Rattle.tl_checkpoint.proofs.cosignature.check_cosignature.Goals as goal

pub returns-clause-memory : goal.returns-clause-memory
returns-clause-memory g c = grind (arith, common_steps)

pub returns-in_default-clause-checked : goal.returns-in_default-clause-checked
returns-in_default-clause-checked g c = grind (arith, common_steps)

pub returns-in_default-clause-memory : goal.returns-in_default-clause-memory
returns-in_default-clause-memory g c = grind (arith, common_steps)

pub returns-in_err-bytes-clause-memory : goal.returns-in_err-bytes-clause-memory
returns-in_err-bytes-clause-memory g c = grind (arith, common_steps)

pub returns-in_err-message-clause-memory : goal.returns-in_err-message-clause-memory
returns-in_err-message-clause-memory g c = grind (arith, common_steps)

pub returns-then-not-is_of-clause-checked : goal.returns-then-not-is_of-clause-checked
returns-then-not-is_of-clause-checked g c = grind (arith, common_steps)

pub returns-then-verify-clause-checked : goal.returns-then-verify-clause-checked
returns-then-verify-clause-checked g c = grind (arith, common_steps)

pub returns-then-verify-clause-memory : goal.returns-then-verify-clause-memory
returns-then-verify-clause-memory g c = grind (arith, common_steps)
