use Rattle.std.proofs.Common.{arith}
use Rattle.std.proofs.lemmas.Grind.{common_steps}
use Rattle.tl_tile.specs.declared.resource.Resource.TheVariants as resource
use Rattle.tl_ledger.proofs.Reopening.{level_partial, partial_needed}
use Rattle.tl_ledger.proofs.opened.reading.read_level.Goals as goal

pub read_one-requires-clause-needed : goal.read_one-requires-clause-needed
read_one-requires-clause-needed g c =
    partial_needed c.args.size (resource.Tile c.partial_of-tile.result) (level_partial c.args.size c.args.level c.partial_of-tile.result c.requires.level c.partial_of-tile.ensures (omega (arith, c.if-tile-eq0.false)))

pub returns-clause-has : goal.returns-clause-has
returns-clause-has g c = grind (arith, common_steps)

pub returns-then-tile-eq0-clause-has : goal.returns-then-tile-eq0-clause-has
returns-then-tile-eq0-clause-has g c = grind (arith, common_steps)
