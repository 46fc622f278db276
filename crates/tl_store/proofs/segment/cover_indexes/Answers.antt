use Rattle.std.proofs.Common.{vec_len, vec_capacity, arith}
use Rattle.std.proofs.lemmas.Grind.{common_steps}
use Rattle.tl_store.proofs.Covering.{added-none, added-more, added-room, added-all, added-count}
use Rattle.tl_store.proofs.segment.cover_indexes.Goals as goal

pub loop-covered-init : goal.loop-covered-init
loop-covered-init g c = added-none c.args.start c.args.end c.args.indexes.now.items (vec_len c.args.indexes.now) (vec_capacity c.args.indexes.now) c.requires.order c.requires.aligned c.requires.room

pub push_reserved-requires : goal.push_reserved-requires
push_reserved-requires g c =
    added-room c.args.start c.args.end c.loop-covered.covered c.ilog2-level.result c.args.indexes.now.items c.loop-covered.indexes.items
    (vec_len c.args.indexes.now) (vec_len c.loop-covered.indexes) (vec_capacity c.args.indexes.now) (vec_capacity c.loop-covered.indexes)
    c.loop-covered-test.true c.ilog2-level.ensures.power_le c.ilog2-level.ensures.next_power_gt c.loop-covered.invariant

pub loop-covered-preserved : goal.loop-covered-preserved
loop-covered-preserved g c =
    added-more c.args.start c.args.end c.loop-covered.covered c.ilog2-level.result c.pow-width.result c.stored_index.result c.args.indexes.now.items c.loop-covered.indexes.items c.push_reserved.new.self.items
    (vec_len c.args.indexes.now) (vec_len c.loop-covered.indexes) (vec_len c.push_reserved.new.self) (vec_capacity c.args.indexes.now) (vec_capacity c.loop-covered.indexes) (vec_capacity c.push_reserved.new.self)
    c.loop-covered.invariant c.loop-covered-test.true c.pow-width.ensures c.ilog2-level.ensures.power_le c.ilog2-level.ensures.next_power_gt c.stored_index.ensures.number
    c.push_reserved.ensures.items c.push_reserved.ensures.len c.push_reserved.ensures.capacity

pub returns-clause-covering : goal.returns-clause-covering
returns-clause-covering g c =
    added-all c.args.start c.args.end c.loop-covered.covered c.args.indexes.now.items c.loop-covered.indexes.items
    (vec_len c.args.indexes.now) (vec_len c.loop-covered.indexes) (vec_capacity c.args.indexes.now) (vec_capacity c.loop-covered.indexes) c.loop-covered.invariant c.loop-covered-test.false

pub returns-clause-count : goal.returns-clause-count
returns-clause-count g c =
    added-count c.args.start c.args.end c.loop-covered.covered c.args.indexes.now.items c.loop-covered.indexes.items
    (vec_len c.args.indexes.now) (vec_len c.loop-covered.indexes) (vec_capacity c.args.indexes.now) (vec_capacity c.loop-covered.indexes) c.loop-covered.invariant c.loop-covered-test.false

pub stored_index-requires-clause-entries : goal.stored_index-requires-clause-entries
stored_index-requires-clause-entries g c = grind (arith, common_steps)
