use Rattle.std.proofs.Common.{arith}
use Rattle.std.proofs.lemmas.Grind.{common_steps}
use Rattle.tl_append.proofs.Proposals.{has_shown}
use Rattle.tl_append.proofs.opening.open_shown.Goals as goal

pub returns-clause-shown : goal.returns-clause-shown
returns-clause-shown g c = λ honest. has_shown (g.S.Shelf.kept c.args.shelf.now).held _ c.open.new.found.head (c.in-Ok.ensures.read honest)

pub returns-clause-there : goal.returns-clause-there
returns-clause-there g c = grind (arith, common_steps)
