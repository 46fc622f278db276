use Rattle.std.proofs.Common.{arith}
use Rattle.std.proofs.lemmas.Grind.{common_steps}
use Rattle.tl_bucket.proofs.commit.first_entry.Goals as goal

pub returns : goal.returns
returns c = grind (arith, common_steps)

pub returns-then-rest-len : goal.returns-then-rest-len
returns-then-rest-len c = grind (arith, common_steps)
