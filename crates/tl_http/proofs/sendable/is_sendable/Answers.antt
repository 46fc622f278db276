use Rattle.std.proofs.Common.{arith}
use Rattle.std.proofs.lemmas.Grind.{common_steps}
use Rattle.tl_http.proofs.sendable.is_sendable.Goals as goal

pub returns-else-starts_with : goal.returns-else-starts_with
returns-else-starts_with c = grind (arith, common_steps)

pub returns-then-starts_with : goal.returns-then-starts_with
returns-then-starts_with c = grind (arith, common_steps)
