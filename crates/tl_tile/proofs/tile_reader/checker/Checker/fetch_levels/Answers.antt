use Rattle.std.proofs.Common.{◌≡◌, ◌-◌, subst, arith}
use Rattle.std.proofs.lemmas.Grind.{common_steps}
use Rattle.tl_tile.specs.Inner.Steps.{AreEdgeFrom}
use Rattle.tl_tile.proofs.Orders.{edge-prefix}
use Rattle.tl_tile.proofs.tile_reader.checker.Checker.fetch_levels.Goals as goal

pub returns-clause-partial : goal.returns-clause-partial
returns-clause-partial g c =
    let all : 8 - c.loop-above.above ≡ 0 = omega arith in
    let edge = subst (λ level. AreEdgeFrom c.args.self.now.size level c.loop-above.fetched) all c.loop-above.invariant.edge in
    edge-prefix c.args.self.now.size 0 c.loop-above.fetched (omega arith) edge.tiles

pub fetch_level-requires-clause-edge : goal.fetch_level-requires-clause-edge
fetch_level-requires-clause-edge g c = grind (arith, common_steps)

pub loop-above-init : goal.loop-above-init
loop-above-init g c = grind (arith, common_steps)

pub loop-above-preserved : goal.loop-above-preserved
loop-above-preserved g c = grind (arith, common_steps)

pub returns-clause-edge : goal.returns-clause-edge
returns-clause-edge g c = grind (arith, common_steps)
