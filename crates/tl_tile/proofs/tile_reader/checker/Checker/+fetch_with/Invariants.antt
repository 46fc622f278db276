use Rattle.std.proofs.Common.{◌-◌}
use Rattle.tl_tile.proofs.tile_reader.checker.Checker.+fetch_with.Given as goal

abbrev pub decreases-fetch_with : goal.decreases-fetch_with
decreases-fetch_with g l = 8 - l.level
