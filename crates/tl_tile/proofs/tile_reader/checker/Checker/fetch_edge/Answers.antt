use Rattle.std.proofs.Common.{arith}
use Rattle.std.proofs.lemmas.Grind.{common_steps}
use Rattle.tl_tile.proofs.EdgeFetch.{edge-all}
use Rattle.tl_tile.proofs.tile_reader.checker.Checker.fetch_edge.Goals as goal

pub returns-clause-verified : goal.returns-clause-verified
returns-clause-verified g c =
    let folds = rw c.in-Some.is at c.in_ok-root.ensures in
    edge-all g.T.TreeHash.digest_of c.args.self.now.size c.args.self.now.root c.in-Some.root c.fetch_levels.new.fetched
    c.in_ok-fetch_levels.ensures.edge folds (c.same.ensures.0 c.if-not-same.false)

pub returns-then-not-same-clause-faults : goal.returns-then-not-same-clause-faults
returns-then-not-same-clause-faults g c = grind (arith, common_steps)
