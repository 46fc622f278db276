use Rattle.std.proofs.Common.{arith}
use Rattle.std.proofs.lemmas.Grind.{common_steps}
use Rattle.tl_fetch.proofs.printing.print_proof.Goals as goal

pub returns-clause-printed : goal.returns-clause-printed
returns-clause-printed g c = grind (arith, common_steps)

pub returns-in_err-print_text-clause-part : goal.returns-in_err-print_text-clause-part
returns-in_err-print_text-clause-part g c = grind (arith, common_steps)

pub returns-in_err-text-clause-part : goal.returns-in_err-text-clause-part
returns-in_err-text-clause-part g c = grind (arith, common_steps)
