use Rattle.std.proofs.Common.{arith}
use Rattle.std.proofs.lemmas.Grind.{common_steps}
use Rattle.tl_http.proofs.persistence.persists.Goals as goal

pub lacks_close-requires : goal.lacks_close-requires
lacks_close-requires c = grind (arith, common_steps)

pub returns-else-spans-ne101 : goal.returns-else-spans-ne101
returns-else-spans-ne101 c = grind (arith, common_steps)

pub returns-in_default : goal.returns-in_default
returns-in_default c = grind (arith, common_steps)

pub returns-then-spans-ne101 : goal.returns-then-spans-ne101
returns-then-spans-ne101 c = grind (arith, common_steps)
