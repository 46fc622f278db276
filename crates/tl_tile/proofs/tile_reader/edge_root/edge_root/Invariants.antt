use Rattle.tl_tile.specs.Fetched.{tiles_of}
use Rattle.tl_tile.specs.Inner.EdgeRoot.{IsRestHash}
use Rattle.tl_tile.proofs.tile_reader.edge_root.edge_root.Given as goal

abbrev pub invariant-loop-level : goal.invariant-loop-level
invariant-loop-level g l = IsRestHash g.T.TreeHash.digest_of (tiles_of l.fetched) l.size l.level l.root
