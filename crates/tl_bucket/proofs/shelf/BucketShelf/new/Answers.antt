use Rattle.std.proofs.Common.{arith}
use Rattle.std.proofs.lemmas.Grind.{common_steps}
use Rattle.tl_bucket.proofs.shelf.BucketShelf.new.Goals as goal

pub returns-clause-events : goal.returns-clause-events
returns-clause-events g c = grind (arith, common_steps)

pub returns-clause-objects : goal.returns-clause-objects
returns-clause-objects g c = grind (arith, common_steps)

pub returns-clause-place : goal.returns-clause-place
returns-clause-place g c = grind (arith, common_steps)

pub returns-clause-unmarked : goal.returns-clause-unmarked
returns-clause-unmarked g c = grind (arith, common_steps)
