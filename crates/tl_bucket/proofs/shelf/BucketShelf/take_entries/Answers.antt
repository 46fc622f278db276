use Rattle.std.proofs.Common.{arith}
use Rattle.std.proofs.lemmas.Grind.{common_steps}
use Rattle.tl_bucket.proofs.shelf.BucketShelf.take_entries.Goals as goal

pub returns-clause-claimed : goal.returns-clause-claimed
returns-clause-claimed g c = grind (arith, common_steps)

pub returns-clause-short : goal.returns-clause-short
returns-clause-short g c = grind (arith, common_steps)
