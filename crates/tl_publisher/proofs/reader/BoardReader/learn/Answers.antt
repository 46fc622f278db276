use Rattle.std.proofs.Common.{arith}
use Rattle.std.proofs.lemmas.Grind.{common_steps}
use Rattle.tl_publisher.proofs.reader.BoardReader.learn.Goals as goal

pub returns-clause-seen : goal.returns-clause-seen
returns-clause-seen g c = grind (arith, common_steps)
