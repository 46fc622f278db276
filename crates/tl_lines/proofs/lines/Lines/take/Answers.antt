use Rattle.std.proofs.Common.{arith}
use Rattle.std.proofs.lemmas.Grind.{common_steps}
use Rattle.tl_lines.proofs.lines.Lines.take.Goals as goal

pub returns-in-Ok : goal.returns-in-Ok
returns-in-Ok g c = grind (arith, common_steps)

pub returns-in-Ok-2 : goal.returns-in-Ok-2
returns-in-Ok-2 g c = grind (arith, common_steps)
