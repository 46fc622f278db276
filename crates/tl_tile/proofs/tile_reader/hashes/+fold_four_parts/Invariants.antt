use Rattle.tl_tile.proofs.tile_reader.hashes.+fold_four_parts.Given as goal

abbrev pub decreases-fold_four_parts : goal.decreases-fold_four_parts
decreases-fold_four_parts g l = l.count
