use Rattle.std.proofs.Common.{arith}
use Rattle.std.proofs.lemmas.Grind.{common_steps}
use Rattle.tl_publisher.proofs.Runs.{takes_running}
use Rattle.tl_publisher.proofs.run.Run.take.Goals as goal

pub invariant_of-self : goal.invariant_of-self
invariant_of-self g c = takes_running c.take.result c.args.lane c.self.inside.log c.take.new.self c.self.inside.growth c.self.inside.board c.take.ensures.taken c.take.ensures.same c.self.invariant

pub returns-clause-grown : goal.returns-clause-grown
returns-clause-grown g c = grind (arith, common_steps)
