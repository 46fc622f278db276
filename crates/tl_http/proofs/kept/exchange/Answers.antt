use Rattle.std.proofs.Common.{arith}
use Rattle.std.proofs.lemmas.Grind.{common_steps}
use Rattle.tl_http.proofs.kept.exchange.Goals as goal

pub returns-clause-table : goal.returns-clause-table
returns-clause-table g c = grind (arith, common_steps)

pub returns-then-not-is_sendable-clause-table : goal.returns-then-not-is_sendable-clause-table
returns-then-not-is_sendable-clause-table g c = grind (arith, common_steps)
