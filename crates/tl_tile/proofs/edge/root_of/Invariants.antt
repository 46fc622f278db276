use Rattle.std.proofs.Common.{◌≡◌, ◌+◌, List, ℕ, length}
use Rattle.tl_tile.specs.TileText.{level_count}
use Rattle.tl_tile.specs.Inner.Rest.{IsRest}
use Rattle.tl_tile.specs.RightEdge.{hashes_below, count_below}
use Rattle.tl_tile.proofs.edge.root_of.Given as goal

abbrev pub invariant-loop-level : goal.invariant-loop-level
invariant-loop-level g l = record {
  count : l.count ≡ level_count l.size l._level;
  end : l.end + count_below l.size l._level ≡ length l.kept;
  below : (entries : List (List ℕ)) → length entries ≡ l.size → l.kept ≡ hashes_below g.T.TreeHash.digest_of entries 8 → IsRest g.T.TreeHash.digest_of entries l._level l.below;
}
