use Rattle.std.proofs.Common.{arith}
use Rattle.std.proofs.lemmas.Grind.{common_steps}
use Rattle.tl_http.proofs.sendable.is_value.Goals as goal

pub returns-then-not-is_ascii_graphic : goal.returns-then-not-is_ascii_graphic
returns-then-not-is_ascii_graphic c = grind (arith, common_steps)

pub returns-then-not-visible : goal.returns-then-not-visible
returns-then-not-visible c = grind (arith, common_steps)
