use Rattle.std.proofs.Common.{◌≡◌, drop}
use Rattle.tl_tile.specs.Fetched.{tiles_of, texts_of}
use Rattle.tl_tile.proofs.tile_reader.fetched.text_in.Given as goal

abbrev pub invariant-loop-fetched : goal.invariant-loop-fetched
invariant-loop-fetched g l = tiles_of (texts_of l.tiles) l.tile ≡ tiles_of (texts_of (drop l.fetched-index l.tiles)) l.tile
