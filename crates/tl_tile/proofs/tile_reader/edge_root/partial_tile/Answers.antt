use Rattle.std.proofs.Common.{refl}
use Rattle.tl_tile.proofs.EdgeFolds.{partial_tile-shifted}
use Rattle.tl_tile.proofs.tile_reader.edge_root.partial_tile.Goals as goal

pub returns : goal.returns
returns c = partial_tile-shifted c.args.size c.args.level _ refl
