use Rattle.tl_tile.proofs.Numbers.{number_small, number_within}
use Rattle.tl_tile.proofs.tile_reader.subtree.subtree_of.Goals as goal

pub split_index-level-requires : goal.split_index-level-requires
split_index-level-requires c = number_small c.args.index c.args.size c.requires.size c.requires.index

pub returns-clause-within : goal.returns-clause-within
returns-clause-within c =
    (c.split_index-level.ensures.level, number_within c.args.index c.args.size c.split_index-level.result.0 c.split_index-level.result.1 c.split_index-level.ensures.number c.requires.index)
