use Rattle.std.proofs.Common.{◌≡◌, ◌*◌, ◌≤◌}
use Rattle.tl_tile.specs.TileText.{level_count}
use Rattle.tl_tile.specs.RightEdge.{count_below}
use Rattle.tl_tile.proofs.edge.count_of.Given as goal

abbrev pub invariant-loop-lower : goal.invariant-loop-lower
invariant-loop-lower l = record {
  kept : l.kept ≡ count_below l.size l._lower;
  few : l.kept ≤ 255 * l._lower;
  count : l.count ≡ level_count l.size l._lower;
}
