use Rattle.std.proofs.Common.{sym, arith}
use Rattle.tl_tile.proofs.Paths.{on_path-full}
use Rattle.tl_tile.proofs.tile_reader.fetched.is_on_path.Goals as goal

pub returns-then-tile-lt8 : goal.returns-then-tile-lt8
returns-then-tile-lt8 c = sym (on_path-full c.args.index c.args.tile (omega (arith, c.if-tile-lt256.false)) c.if-tile-lt8.true)
