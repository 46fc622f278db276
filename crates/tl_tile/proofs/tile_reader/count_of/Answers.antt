use Rattle.std.proofs.Common.{sym}
use Rattle.tl_tile.proofs.Readers.{readable_none}
use Rattle.tl_tile.proofs.tile_reader.count_of.Goals as goal

pub returns-else-size : goal.returns-else-size
returns-else-size c = sym (readable_none c.args.size c.if-size.false)
