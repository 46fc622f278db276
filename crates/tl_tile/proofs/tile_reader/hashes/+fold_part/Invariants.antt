use Rattle.tl_tile.proofs.tile_reader.hashes.+fold_part.Given as goal

abbrev pub decreases-fold_part : goal.decreases-fold_part
decreases-fold_part g l = l.count
