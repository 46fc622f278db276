use Rattle.std.proofs.Common.{ap, arith}
use Rattle.tl_tile.specs.declared.resource.Tile.{Tile}
use Rattle.tl_tile.proofs.EdgeFetch.{none_above, some_highest}
use Rattle.tl_tile.proofs.tile_reader.checker.highest_tile.Goals as goal

pub returns-clause-wide : goal.returns-clause-wide
returns-clause-wide c =
    omega (arith, some_highest c.args.size c.ilog2.result c.ilog2.ensures.power_le c.ilog2.ensures.next_power_gt, ap (λ (t : Tile). t.width) c.partial_tile.ensures)

pub returns-clause-highest : goal.returns-clause-highest
returns-clause-highest c level above =
    none_above c.args.size c.ilog2.result level c.ilog2.ensures.next_power_gt (omega (arith, above, ap (λ (t : Tile). t.level) c.partial_tile.ensures))
