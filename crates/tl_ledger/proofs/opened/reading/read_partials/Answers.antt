use Rattle.std.proofs.Common.{arith}
use Rattle.std.proofs.lemmas.Grind.{common_steps}
use Rattle.tl_ledger.proofs.Reopening.{levels_on}
use Rattle.tl_ledger.proofs.opened.reading.read_partials.Goals as goal

pub loop-level-preserved : goal.loop-level-preserved
loop-level-preserved g c = record {
  levels = levels_on g.S.Shelf.is_honest (g.S.Shelf.kept c.args.shelf.now).held c.args.size c.loop-level.level c.loop-level.read c.read_level.new.read c.loop-level.invariant.levels c.in_ok-read_level.ensures.more
      c.in_ok-read_level.ensures.has;
  held = c.in_ok-read_level.ensures.more.still c.loop-level.invariant.held;
}

pub returns-clause-held : goal.returns-clause-held
returns-clause-held g c = c.in_ok-read_last.ensures.more.still c.loop-level.invariant.held

pub loop-level-init : goal.loop-level-init
loop-level-init g c = grind (arith, common_steps)

pub returns-clause-all : goal.returns-clause-all
returns-clause-all g c = grind (arith, common_steps)

pub returns-clause-refused : goal.returns-clause-refused
returns-clause-refused g c = grind (arith, common_steps)
