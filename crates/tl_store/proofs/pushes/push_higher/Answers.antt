use Rattle.std.proofs.Common.{◌+◌, [], length, vec_capacity, refl, ◌∙◌, arith}
use Rattle.std.proofs.lemmas.List.{get_or_read}
use Rattle.tl_store.proofs.Completed.{left_there, pushed-none, pushed-next, pushed-all, counted-all, two_at, number_at, last_level, low_enough, room_enough}
use Rattle.tl_store.proofs.pushes.push_higher.Goals as goal

pub loop-level-init : goal.loop-level-init
loop-level-init g c = record {
  pushed = pushed-none g.T.TreeHash.digest_of c.args.size c.args.low c.args.first c.args.hashes.now.items;
  room = omega (
    arith,
    c.args.hashes.now.ok.0,
    low_enough c.args.size c.args.low c.requires.some c.requires.small c.requires.whole,
    room_enough c.args.size (vec_capacity c.args.hashes.now) c.requires.some c.requires.small c.requires.room,
    c.requires.counted,
  );
  capacity = refl;
}

pub overflow_sub-size : goal.overflow_sub-size
overflow_sub-size g c = two_at c.args.size c.loop-level.level c.pow.result c.requires.some c.requires.small c.loop-level-test.true c.pow.ensures

pub stored_index-left-requires-clause-entries : goal.stored_index-left-requires-clause-entries
stored_index-left-requires-clause-entries g c = number_at c.args.size c.loop-level.level c.pow.result c.requires.some c.requires.small c.loop-level-test.true c.pow.ensures

pub index-requires : goal.index-requires
index-requires g c =
    omega (
      arith,
      c.loop-level.hashes.ok.0,
      left_there c.args.size c.loop-level.level c.pow.result c.stored_index-left.result (length c.loop-level.hashes.items) (c.loop-level.level + 1)
          c.requires.some c.requires.small c.loop-level-test.true c.pow.ensures c.stored_index-left.ensures.number (omega (arith, c.loop-level.invariant.pushed.count, c.requires.counted)),
    )

pub loop-level-preserved : goal.loop-level-preserved
loop-level-preserved g c = record {
  pushed = pushed-next g.T.TreeHash.digest_of c.args.size c.args.low c.args.first c.loop-level.level c.loop-level.hash c.args.hashes.now.items c.loop-level.hashes.items c.pow.result c.stored_index-left.result c.index.result.now c.node_hash-hash.result c.push_reserved.new.self.items
      c.requires.some c.requires.small c.loop-level-test.true c.pow.ensures c.stored_index-left.ensures.number c.loop-level.invariant.pushed (get_or_read c.loop-level.hashes.items c.stored_index-left.result c.index.result.now
      (left_there c.args.size c.loop-level.level c.pow.result c.stored_index-left.result (length c.loop-level.hashes.items) (c.loop-level.level + 1) c.requires.some c.requires.small c.loop-level-test.true c.pow.ensures c.stored_index-left.ensures.number
      (omega (arith, c.loop-level.invariant.pushed.count, c.requires.counted)))
      c.index.ensures []) c.node_hash-hash.ensures c.push_reserved.ensures.items;
  room = omega (arith, c.push_reserved.ensures.len, c.push_reserved.ensures.capacity, c.loop-level.invariant.room);
  capacity = c.push_reserved.ensures.capacity ∙ c.loop-level.invariant.capacity;
}

pub returns-clause-counted : goal.returns-clause-counted
returns-clause-counted g c =
    counted-all c.args.size c.loop-level.level (length c.loop-level.hashes.items) c.requires.some
    (last_level c.args.size c.loop-level.level c.requires.some c.requires.small (c.loop-level.auto.level-end (low_enough c.args.size c.args.low c.requires.some c.requires.small c.requires.whole)) c.loop-level-test.false)
    (omega (arith, c.loop-level.invariant.pushed.count, c.requires.counted))

pub returns-clause-added : goal.returns-clause-added
returns-clause-added g c entries entry =
    pushed-all g.T.TreeHash.digest_of c.args.size c.args.low c.args.first c.loop-level.level c.loop-level.hash c.args.hashes.now.items c.loop-level.hashes.items c.requires.some
    (last_level c.args.size c.loop-level.level c.requires.some c.requires.small (c.loop-level.auto.level-end (low_enough c.args.size c.args.low c.requires.some c.requires.small c.requires.whole)) c.loop-level-test.false) c.loop-level.invariant.pushed entries entry
