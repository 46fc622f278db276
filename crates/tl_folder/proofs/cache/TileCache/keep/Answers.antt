use Rattle.tl_folder.proofs.cache.TileCache.keep.Goals as goal

pub keep_tile-requires : goal.keep_tile-requires
keep_tile-requires g c = c.has_path.ensures.0 c.if-has_path.true
