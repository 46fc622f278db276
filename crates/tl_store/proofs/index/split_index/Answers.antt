use Rattle.std.proofs.Common.{arith}
use Rattle.tl_store.proofs.Splits.{level_of, power_of, place_there, index_there, entries_there}
use Rattle.tl_store.proofs.index.split_index.Goals as goal

pub overflow_cast-level : goal.overflow_cast-level
overflow_cast-level c = omega (arith, level_of c.entries_before-n.result c.args.index c.stored_count.result c.stored_count.ensures.subtrees c.entries_before-n.ensures.low c.entries_before-n.ensures.high c.entries_before-n.ensures.small)

pub pow-requires : goal.pow-requires
pow-requires c = power_of _ (level_of c.entries_before-n.result c.args.index c.stored_count.result c.stored_count.ensures.subtrees c.entries_before-n.ensures.low c.entries_before-n.ensures.high c.entries_before-n.ensures.small)

pub overflow_sub-result : goal.overflow_sub-result
overflow_sub-result c = place_there c.entries_before-n.result c.args.index c.stored_count.result c.pow.result c.stored_count.ensures.subtrees c.pow.ensures c.entries_before-n.ensures.low c.entries_before-n.ensures.high

pub returns-clause-number : goal.returns-clause-number
returns-clause-number c = index_there c.entries_before-n.result c.args.index c.stored_count.result c.pow.result c.stored_count.ensures.subtrees c.pow.ensures c.entries_before-n.ensures.low c.entries_before-n.ensures.high

pub returns-clause-level : goal.returns-clause-level
returns-clause-level c = level_of c.entries_before-n.result c.args.index c.stored_count.result c.stored_count.ensures.subtrees c.entries_before-n.ensures.low c.entries_before-n.ensures.high c.entries_before-n.ensures.small

pub returns-clause-entries : goal.returns-clause-entries
returns-clause-entries c = entries_there c.entries_before-n.result c.args.index c.stored_count.result c.pow.result c.stored_count.ensures.subtrees c.pow.ensures c.entries_before-n.ensures.low c.entries_before-n.ensures.high c.entries_before-n.ensures.small
