use Rattle.std.proofs.Common.{arith, refl}
use Rattle.tl_store.proofs.StoreLemmas.{counted_none, hashes_none}
use Rattle.tl_store.proofs.store.HashStore.new.Goals as goal

pub invariant_of-result : goal.invariant_of-result
invariant_of-result g c = (counted_none c.new.result.items c.new.ensures.items, omega arith)

pub returns : goal.returns
returns g c = (refl, omega arith, hashes_none g.T.TreeHash.digest_of c.new.result.items c.new.ensures.items)
