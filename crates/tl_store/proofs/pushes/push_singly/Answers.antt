use Rattle.std.proofs.Common.{◌+◌, ◌≤◌, ◌∙◌, length, vec_items, vec_capacity, arith}
use Rattle.std.proofs.lemmas.Grind.{common_steps}
use Rattle.tl_store.proofs.AddsLemmas.{adds-next, room_for}
use Rattle.tl_store.proofs.pushes.push_singly.Goals as goal

pub push_entry-requires-clause-room : goal.push_entry-requires-clause-room
push_entry-requires-clause-room g c =
    let within : c.args.size + c.loop-before.before + 1 ≤ c.args.size + length c.args.entries.now = omega (arith, c.loop-before-test.true) in
    omega (arith, c.loop-before.invariant.capacity, room_for _ _ (vec_capacity c.args.hashes.now) within c.requires.room)

pub loop-before-preserved : goal.loop-before-preserved
loop-before-preserved g c =
    let next = rw c.deref.ensures.value at c.push_entry.ensures.added in
    record {
      added = adds-next vec_items g.T.TreeHash.digest_of c.args.size (c.args.size + c.loop-before.before) c.args.entries.now c.loop-before.before _ _ _ _
          (omega (arith, c.loop-before-test.true)) c.index-entries-before.is (omega arith) c.loop-before.invariant.added next;
      capacity = c.push_entry.ensures.capacity ∙ c.loop-before.invariant.capacity;
    }

pub push_entry-requires-clause-counted : goal.push_entry-requires-clause-counted
push_entry-requires-clause-counted g c = grind (arith, common_steps)

pub returns-clause-added : goal.returns-clause-added
returns-clause-added g c = grind (arith, common_steps)
