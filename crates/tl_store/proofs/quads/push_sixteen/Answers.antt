use Rattle.std.proofs.Common.{◌≡◌, ◌+◌, ◌∙◌, length, map, take, drop, vec_items, vec_capacity, ap, refl, arith}
use Rattle.std.proofs.lemmas.List.{length-take-le, length-drop, length-map}
use Rattle.tl_store.specs.Stored.{stored_count}
use Rattle.tl_store.proofs.AddsLemmas.{room_for, adds-parts}
use Rattle.tl_store.proofs.quads.push_sixteen.Goals as goal

pub push_quad-requires-clause-room : goal.push_quad-requires-clause-room
push_quad-requires-clause-room g c = room_for (c.args.size + 4) (c.args.size + 16) (vec_capacity c.args.hashes.now) (omega arith) c.requires.room

pub push_quad-requires-2-clause-room : goal.push_quad-requires-2-clause-room
push_quad-requires-2-clause-room g c =
    omega (arith, c.push_quad.ensures.capacity, room_for (c.args.size + 4 + 4) (c.args.size + 16) (vec_capacity c.args.hashes.now) (omega arith) c.requires.room)

pub push_quad-requires-3-clause-room : goal.push_quad-requires-3-clause-room
push_quad-requires-3-clause-room g c =
    omega (arith, c.push_quad.ensures.capacity, c.push_quad-2.ensures.capacity, room_for (c.args.size + 8 + 4) (c.args.size + 16) (vec_capacity c.args.hashes.now) (omega arith) c.requires.room)

pub push_quad-requires-2-clause-counted : goal.push_quad-requires-2-clause-counted
push_quad-requires-2-clause-counted g c = c.push_quad.ensures.counted

pub push_quad-requires-3-clause-counted : goal.push_quad-requires-3-clause-counted
push_quad-requires-3-clause-counted g c = let next : c.args.size + 4 + 4 ≡ c.args.size + 8 = omega arith in c.push_quad-2.ensures.counted ∙ ap stored_count next

pub push_quad-requires-4-clause-counted : goal.push_quad-requires-4-clause-counted
push_quad-requires-4-clause-counted g c = let next : c.args.size + 8 + 4 ≡ c.args.size + 12 = omega arith in c.push_quad-3.ensures.counted ∙ ap stored_count next

pub returns-clause-added : goal.returns-clause-added
returns-clause-added g c =
    let H = g.T.TreeHash.digest_of in
    let size = c.args.size in
    let xs = c.args.entries.now in
    let left_long : length (take 8 xs) ≡ 8 = length-take-le 8 xs (omega arith) in
    let right_long : length (drop 8 xs) ≡ 8 = omega (arith, length-drop 8 xs) in
    let stored = c.four_quads-quads.ensures in
    let one = c.push_quad.ensures.added (map vec_items (take 4 (take 8 xs))) (omega (arith, length-map (take 4 (take 8 xs)) vec_items, length-take-le 4 (take 8 xs) (omega (arith, left_long)))) (rw (c.split_at-2.ensures.front, c.split_at.ensures.front) at stored.a) in
    let two = c.push_quad-2.ensures.added (map vec_items (drop 4 (take 8 xs))) (omega (arith, length-map (drop 4 (take 8 xs)) vec_items, length-drop 4 (take 8 xs), left_long)) (rw (c.split_at-2.ensures.back, c.split_at.ensures.front) at stored.b) in
    let three = c.push_quad-3.ensures.added (map vec_items (take 4 (drop 8 xs))) (omega (arith, length-map (take 4 (drop 8 xs)) vec_items, length-take-le 4 (drop 8 xs) (omega (arith, right_long)))) (rw (c.split_at-3.ensures.front, c.split_at.ensures.back) at stored.c) in
    let four = c.push_quad-4.ensures.added (map vec_items (drop 4 (drop 8 xs))) (omega (arith, length-map (drop 4 (drop 8 xs)) vec_items, length-drop 4 (drop 8 xs), right_long)) (rw (c.split_at-3.ensures.back, c.split_at.ensures.back) at stored.d) in
    let left = adds-parts vec_items H size (size + 4) 4 (take 8 xs) _ _ _ (omega (arith, left_long)) refl one two in
    let right = adds-parts vec_items H (size + 8) (size + 12) 4 (drop 8 xs) _ _ _ (omega (arith, right_long)) (omega arith) three four in
    adds-parts vec_items H size (size + 8) 8 xs _ _ _ (omega arith) refl left right
