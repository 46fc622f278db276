use Rattle.std.proofs.Common.{map}
use Rattle.std.specs.Prelude.{IsTrue, vec_items}
use Rattle.tl_tile.proofs.FillSteps.{AreFilling, AreNamesBelow, AreTilesBelow}
use Rattle.tl_tile.proofs.fold.fill.Given as goal

abbrev pub invariant-loop-count : goal.invariant-loop-count
invariant-loop-count g l =
    AreFilling g.T.TreeHash.digest_of l.size l.lowest l.fn.root l.kept l.level l.count l.left l.hash
    × (IsTrue l.fn.wanted → AreTilesBelow g.T.TreeHash.digest_of l.size l.lowest l.fn.root l.kept l.level (map (λ t. (t.0, vec_items t.1)) l.tiles.items))
    × (IsTrue l.fn.wanted → AreNamesBelow l.size l.lowest l.level (map (λ t. (t.0, vec_items t.1)) l.tiles.items))

abbrev pub decreases-loop-count : goal.decreases-loop-count
decreases-loop-count g l = l.count
