use Rattle.std.proofs.Common.{arith}
use Rattle.std.proofs.lemmas.Grind.{common_steps}
use Rattle.tl_bucket.proofs.shelf.BucketShelf.open.Goals as goal

pub returns-clause-end : goal.returns-clause-end
returns-clause-end g c = grind (arith, common_steps)

pub returns-clause-shown : goal.returns-clause-shown
returns-clause-shown g c = grind (arith, common_steps)

pub returns-clause-events : goal.returns-clause-events
returns-clause-events g c = grind (arith, common_steps)

pub returns-clause-place : goal.returns-clause-place
returns-clause-place g c = grind (arith, common_steps)

pub returns-clause-refuses : goal.returns-clause-refuses
returns-clause-refuses g c = grind (arith, common_steps)

pub returns-clause-unmarked : goal.returns-clause-unmarked
returns-clause-unmarked g c = grind (arith, common_steps)

pub returns-clause-waiting : goal.returns-clause-waiting
returns-clause-waiting g c = grind (arith, common_steps)

pub same-claims : goal.same-claims
same-claims g c = grind (arith, common_steps)
