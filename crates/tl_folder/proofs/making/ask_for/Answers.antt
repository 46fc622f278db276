use Rattle.std.proofs.Common.{arith}
use Rattle.std.proofs.lemmas.Grind.{common_steps}
use Rattle.tl_folder.proofs.making.ask_for.Goals as goal

pub returns-in_err-name_if-in-Ok : goal.returns-in_err-name_if-in-Ok
returns-in_err-name_if-in-Ok g c = grind (arith, common_steps)

pub returns-in_ok-name_if-in-Ok : goal.returns-in_ok-name_if-in-Ok
returns-in_ok-name_if-in-Ok g c = grind (arith, common_steps)

pub returns-then-is_folder : goal.returns-then-is_folder
returns-then-is_folder g c = grind (arith, common_steps)
