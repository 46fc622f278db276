use Rattle.tl_tile.proofs.FilledTiles.{filled_are_new}
use Rattle.tl_tile.proofs.law.filled_tiles_are_new.Goals as goal

pub returns : goal.returns
returns c = filled_are_new
