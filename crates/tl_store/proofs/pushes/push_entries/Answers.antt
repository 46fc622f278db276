use Rattle.std.proofs.Common.{◌+◌, ◌≤◌, length, vec_items, vec_capacity, refl, arith}
use Rattle.std.proofs.lemmas.Grind.{common_steps}
use Rattle.tl_store.proofs.AddsLemmas.{adds-parts, room_for}
use Rattle.tl_store.proofs.pushes.push_entries.Goals as goal

pub push_singly-requires-clause-room : goal.push_singly-requires-clause-room
push_singly-requires-clause-room g c =
    let within : c.args.size + length c.split_at.result.0.now ≤ c.args.size + length c.args.entries.now = omega (arith, c.split_at.ensures.front_len, c.min-before.ensures) in
    room_for _ _ (vec_capacity c.args.hashes.now) within c.requires.room

pub returns-clause-added : goal.returns-clause-added
returns-clause-added g c =
    let first = rw c.split_at.ensures.front at c.push_singly.ensures.added in
    let rest = rw c.split_at.ensures.back at c.push_sixteens.ensures.added in
    adds-parts vec_items g.T.TreeHash.digest_of c.args.size (c.args.size + c.min-before.result) c.min-before.result c.args.entries.now _ _ _
    (omega (arith, c.min-before.ensures)) refl first rest

pub push_sixteens-requires-clause-counted : goal.push_sixteens-requires-clause-counted
push_sixteens-requires-clause-counted g c = grind (arith, common_steps)

pub push_sixteens-requires-clause-room : goal.push_sixteens-requires-clause-room
push_sixteens-requires-clause-room g c = grind (arith, common_steps)
