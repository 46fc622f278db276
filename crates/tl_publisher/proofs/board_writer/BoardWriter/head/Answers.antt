use Rattle.std.proofs.Common.{arith}
use Rattle.std.proofs.lemmas.Grind.{common_steps}
use Rattle.tl_publisher.proofs.board_writer.BoardWriter.head.Goals as goal

pub returns-clause-shown : goal.returns-clause-shown
returns-clause-shown g c = grind (arith, common_steps)
