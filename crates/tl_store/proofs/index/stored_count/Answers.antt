use Rattle.std.proofs.Common.{ap, ◌∙◌, arith}
use Rattle.tl_store.specs.Stored.{stored_count}
use Rattle.tl_store.proofs.Counts.{count_by_bits}
use Rattle.tl_store.proofs.StoredLemmas.{count_is_length}
use Rattle.tl_store.proofs.index.stored_count.Goals as goal

pub returns-clause-subtrees : goal.returns-clause-subtrees
returns-clause-subtrees c = omega (arith, count_by_bits c.args.n)

pub returns-clause-hashes : goal.returns-clause-hashes
returns-clause-hashes c H entries size = count_is_length H entries ∙ ap stored_count size ∙ omega (arith, count_by_bits c.args.n)
