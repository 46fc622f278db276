use Rattle.std.proofs.Common.{arith}
use Rattle.std.proofs.lemmas.Grind.{common_steps}
use Rattle.tl_tile.proofs.path.path_of.Goals as goal

pub push_piece-requires : goal.push_piece-requires
push_piece-requires g c = grind (arith, common_steps)

pub push_piece-requires-in-Tile : goal.push_piece-requires-in-Tile
push_piece-requires-in-Tile g c = grind (arith, common_steps)
