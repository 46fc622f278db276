use Rattle.std.proofs.Common.{◌-◌}
use Rattle.tl_tile.specs.Inner.Steps.{AreFetched, AreEdgeFrom}
use Rattle.tl_tile.proofs.tile_reader.checker.Checker.fetch_levels.Given as goal

abbrev pub invariant-loop-above : goal.invariant-loop-above
invariant-loop-above g l = record {
  edge : AreEdgeFrom l.self.size (8 - l.above) l.fetched;
  fetched : AreFetched (g.S.TileSource.may_answer l.self.source) g.T.TreeHash.digest_of l.self.size l.self.root l.fetched;
}
