use Rattle.std.proofs.Common.{arith}
use Rattle.std.proofs.lemmas.Grind.{common_steps}
use Rattle.tl_publisher.proofs.lookup.text_at.Goals as goal

pub returns-else-place-texts : goal.returns-else-place-texts
returns-else-place-texts g c = grind (arith, common_steps)
