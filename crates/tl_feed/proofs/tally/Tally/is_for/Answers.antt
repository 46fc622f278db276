use Rattle.std.proofs.Common.{arith}
use Rattle.std.proofs.lemmas.Grind.{common_steps}
use Rattle.tl_feed.proofs.tally.Tally.is_for.Goals as goal

pub returns-then-after-round : goal.returns-then-after-round
returns-then-after-round c = (
  λ yes. (c.in-Some.round, (c.in-Some.is, omega (arith, c.if-after-round.true), c.gave_none.ensures.0 yes)),
  λ wanted. c.gave_none.ensures.1 wanted.1.2,
)

pub returns-else-after-round : goal.returns-else-after-round
returns-else-after-round c = grind (arith, common_steps)

pub returns-in-None : goal.returns-in-None
returns-in-None c = grind (arith, common_steps)
