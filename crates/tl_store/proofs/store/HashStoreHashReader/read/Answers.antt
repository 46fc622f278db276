use Rattle.std.proofs.Common.{arith}
use Rattle.std.proofs.lemmas.Grind.{common_steps}
use Rattle.tl_store.proofs.store.HashStoreHashReader.read.Goals as goal

pub loop-index-preserved : goal.loop-index-preserved
loop-index-preserved g c = grind (arith, common_steps)

pub returns-clause-count : goal.returns-clause-count
returns-clause-count g c = grind (arith, common_steps)

pub returns-clause-hashes : goal.returns-clause-hashes
returns-clause-hashes g c = grind (arith, common_steps)

pub returns-clause-in_range : goal.returns-clause-in_range
returns-clause-in_range g c = grind (arith, common_steps)

pub returns-then-not-are_below-clause-faults : goal.returns-then-not-are_below-clause-faults
returns-then-not-are_below-clause-faults g c = grind (arith, common_steps)
