use Rattle.std.proofs.Common.{arith}
use Rattle.std.proofs.lemmas.Grind.{common_steps}
use Rattle.tl_http.proofs.target.is_askable.Goals as goal

pub returns-else-is_visible-2 : goal.returns-else-is_visible-2
returns-else-is_visible-2 c = grind (arith, common_steps)

pub returns-then-is_visible-2 : goal.returns-then-is_visible-2
returns-then-is_visible-2 c = grind (arith, common_steps)
