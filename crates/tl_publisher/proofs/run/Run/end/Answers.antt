use Rattle.std.proofs.Common.{arith}
use Rattle.std.proofs.lemmas.Grind.{common_steps}
use Rattle.tl_publisher.proofs.Runs.{closes_running}
use Rattle.tl_publisher.proofs.run.Run.end.Goals as goal

pub invariant_of-self : goal.invariant_of-self
invariant_of-self g c = closes_running c.end.result c.args.ended c.self.inside.log c.end.new.self c.self.inside.growth c.self.inside.board c.end.ensures.taken c.end.ensures.same c.self.invariant

pub returns-clause-grown : goal.returns-clause-grown
returns-clause-grown g c = grind (arith, common_steps)
