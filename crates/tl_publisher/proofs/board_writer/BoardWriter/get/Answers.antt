use Rattle.std.proofs.Common.{arith}
use Rattle.std.proofs.lemmas.Grind.{common_steps}
use Rattle.tl_publisher.proofs.board_writer.BoardWriter.get.Goals as goal

pub bytes_of-requires : goal.bytes_of-requires
bytes_of-requires g c = grind (arith, common_steps)
