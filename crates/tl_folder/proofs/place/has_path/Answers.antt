use Rattle.std.proofs.Common.{arith}
use Rattle.std.proofs.lemmas.Grind.{common_steps}
use Rattle.tl_folder.proofs.place.has_path.Goals as goal

pub returns-else-width-gt0 : goal.returns-else-width-gt0
returns-else-width-gt0 c = grind (arith, common_steps)

pub returns-in-Checkpoint : goal.returns-in-Checkpoint
returns-in-Checkpoint c = grind (arith, common_steps)

pub returns-in-Tile : goal.returns-in-Tile
returns-in-Tile c = grind (arith, common_steps)

pub returns-then-width-gt0 : goal.returns-then-width-gt0
returns-then-width-gt0 c = grind (arith, common_steps)
