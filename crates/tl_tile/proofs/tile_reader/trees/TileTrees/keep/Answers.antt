use Rattle.std.proofs.Common.{ap}
use Rattle.std.specs.Prelude.{option_map, vec_items}
use Rattle.tl_tile.proofs.TreeKeys.{keys-apart}
use Rattle.tl_tile.proofs.tile_reader.trees.TileTrees.keep.Goals as goal

pub returns-clause-others : goal.returns-clause-others
returns-clause-others g c l i apart = ap (option_map vec_items) (c.in_ok-insert.ensures.updates.2 (l, i) (keys-apart c.args.level c.args.index l i apart))
