use Rattle.std.proofs.Common.{arith}
use Rattle.std.proofs.lemmas.Grind.{common_steps}
use Rattle.tl_publisher.proofs.face.bytes_at.Goals as goal

pub returns-else-place-all : goal.returns-else-place-all
returns-else-place-all g c = grind (arith, common_steps)

pub returns-then-place-all : goal.returns-then-place-all
returns-then-place-all g c = grind (arith, common_steps)
