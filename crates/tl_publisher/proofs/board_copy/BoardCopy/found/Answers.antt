use Rattle.std.proofs.Common.{arith}
use Rattle.std.proofs.lemmas.Grind.{common_steps}
use Rattle.tl_publisher.proofs.board_copy.BoardCopy.found.Goals as goal

pub slice_bounds-sizes-end : goal.slice_bounds-sizes-end
slice_bounds-sizes-end g c = grind (arith, common_steps)
