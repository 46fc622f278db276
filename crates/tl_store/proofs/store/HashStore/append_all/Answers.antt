use Rattle.std.proofs.Common.{arith}
use Rattle.std.proofs.lemmas.Grind.{common_steps}
use Rattle.tl_store.proofs.store.HashStore.append_all.Goals as goal

pub invariant_of-self : goal.invariant_of-self
invariant_of-self g c = grind (arith, common_steps)

pub invariant_of-self-2 : goal.invariant_of-self-2
invariant_of-self-2 g c = grind (arith, common_steps)

pub push_entries-requires-clause-counted : goal.push_entries-requires-clause-counted
push_entries-requires-clause-counted g c = grind (arith, common_steps)

pub push_entries-requires-clause-small : goal.push_entries-requires-clause-small
push_entries-requires-clause-small g c = grind (arith, common_steps)

pub returns-clause-entries : goal.returns-clause-entries
returns-clause-entries g c = grind (arith, common_steps)

pub returns-clause-size : goal.returns-clause-size
returns-clause-size g c = grind (arith, common_steps)

pub stored_count-requires : goal.stored_count-requires
stored_count-requires g c = grind (arith, common_steps)
