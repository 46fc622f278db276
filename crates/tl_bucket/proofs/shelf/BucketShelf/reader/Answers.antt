use Rattle.std.proofs.Common.{arith}
use Rattle.std.proofs.lemmas.Grind.{common_steps}
use Rattle.tl_bucket.proofs.shelf.BucketShelf.reader.Goals as goal

pub returns-clause-place : goal.returns-clause-place
returns-clause-place g c = grind (arith, common_steps)
