use Rattle.std.proofs.Common.{◌+◌, ◌≤◌, ◌∙◌, length, drop, vec_items, vec_capacity, refl, sym, arith}
use Rattle.std.proofs.lemmas.Grind.{common_steps}
use Rattle.tl_store.proofs.AddsLemmas.{first-none, first-counted, first-more, first-all, room_for}
use Rattle.tl_store.proofs.pushes.push_sixteens.Goals as goal

pub loop-count-init : goal.loop-count-init
loop-count-init g c = record {
  count = refl;
  added = first-none vec_items g.T.TreeHash.digest_of c.args.size c.args.entries.now c.args.hashes.now.items;
  capacity = refl;
}

pub push_sixteen-requires-clause-counted : goal.push_sixteen-requires-clause-counted
push_sixteen-requires-clause-counted g c =
    first-counted vec_items g.T.TreeHash.digest_of c.args.size c.loop-count.count c.args.entries.now c.loop-count.left.now _ _ c.loop-count.invariant.added c.loop-count.invariant.count c.requires.counted

pub push_sixteen-requires-clause-room : goal.push_sixteen-requires-clause-room
push_sixteen-requires-clause-room g c =
    let within : c.loop-count.count + 16 ≤ c.args.size + length c.args.entries.now = omega (arith, c.loop-count.invariant.count, c.if-left-ge16.true) in
    omega (arith, c.loop-count.invariant.capacity, room_for _ _ (vec_capacity c.args.hashes.now) within c.requires.room)

pub loop-count-preserved : goal.loop-count-preserved
loop-count-preserved g c =
    let H = g.T.TreeHash.digest_of in
    let next = rw c.split_at.ensures.front at c.push_sixteen.ensures.added in
    let more = first-more vec_items H c.args.size c.loop-count.count 16 c.args.entries.now c.loop-count.left.now _ _ _ c.loop-count.invariant.added c.loop-count.invariant.count next in
    record {
      count = omega (arith, c.loop-count.invariant.count, c.if-left-ge16.true, c.split_at.ensures.back_len);
      added = rw (sym {b = drop 16 c.loop-count.left.now} c.split_at.ensures.back) at more;
      capacity = c.push_sixteen.ensures.capacity ∙ c.loop-count.invariant.capacity;
    }

pub push_singly-requires-clause-counted : goal.push_singly-requires-clause-counted
push_singly-requires-clause-counted g c =
    first-counted vec_items g.T.TreeHash.digest_of c.args.size c.loop-count.count c.args.entries.now c.loop-count.left.now _ _ c.loop-count.invariant.added c.loop-count.invariant.count c.requires.counted

pub returns-clause-added : goal.returns-clause-added
returns-clause-added g c =
    first-all vec_items g.T.TreeHash.digest_of c.args.size c.loop-count.count c.args.entries.now c.loop-count.left.now _ _ _
    c.loop-count.invariant.added c.loop-count.invariant.count c.push_singly.ensures.added

pub push_singly-requires-clause-room : goal.push_singly-requires-clause-room
push_singly-requires-clause-room g c = grind (arith, common_steps)
