use Rattle.std.proofs.Common.{◌≡◌, take, length}
use Rattle.tl_tile.specs.Fetched.{tiles_of}
use Rattle.tl_tile.specs.Fetching.{IsNeededFor}
use Rattle.tl_tile.specs.Verified.{AddsTiles, AreVerified}
use Rattle.tl_tile.specs.Inner.TileTree.{AreTreesOf}
use Rattle.tl_tile.specs.Inner.TreeKeys.{trees_in}
use Rattle.tl_tile.specs.Inner.Steps.{AreHashesOf}
use Rattle.tl_tile.proofs.tile_reader.checker.Checker.read_numbers.Given as goal

abbrev pub invariant-loop-index : goal.invariant-loop-index
invariant-loop-index g l = record {
  verified : AreVerified g.T.TreeHash.digest_of l.self.size l.self.root l.fetched;
  trees : AreTreesOf g.T.TreeHash.digest_of (tiles_of l.fetched) (trees_in l.trees.map);
  adds : AddsTiles (g.S.TileSource.may_answer l.self.source) g.T.TreeHash.digest_of l.self.size l.self.root (IsNeededFor l.self.size l.indexes) l.fn.fetched l.fetched;
  hashes_are : AreHashesOf g.T.TreeHash.digest_of (tiles_of l.fetched) l.self.size (take l.index-index l.indexes) l.hashes.items;
  count : length l.hashes.items ≡ l.index-index;
}
