use Rattle.std.proofs.Common.{◌≡◌, ◌≤◌}
use Rattle.tl_tile.specs.TileText.{level_count}
use Rattle.tl_tile.proofs.NeededLemmas.{tiles_below}
use Rattle.tl_tile.proofs.listing.added_resources.Given as goal

abbrev pub invariant-loop-level : goal.invariant-loop-level
invariant-loop-level g l = record {
  tiles : l.listed.items ≡ tiles_below l.from l.size l.level;
  low : l.low ≡ level_count l.from l.level;
  high : l.high ≡ level_count l.size l.level;
  order : l.low ≤ l.high;
  less : l.high ≤ l.size;
}
