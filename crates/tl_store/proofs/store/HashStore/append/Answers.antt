use Rattle.std.proofs.Common.{arith}
use Rattle.std.proofs.lemmas.Grind.{common_steps}
use Rattle.tl_store.proofs.store.HashStore.append.Goals as goal

pub returns-clause-entry : goal.returns-clause-entry
returns-clause-entry g c = grind (arith, common_steps)
