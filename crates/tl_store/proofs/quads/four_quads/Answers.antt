use Rattle.std.proofs.Common.{vec_items, arith}
use Rattle.tl_store.proofs.QuadLemmas.{quad_is}
use Rattle.tl_store.proofs.quads.four_quads.Goals as goal

pub returns-clause-a : goal.returns-clause-a
returns-clause-a g c =
    let one = c.leaves_at-first.ensures.a in
    let two = c.leaves_at-second.ensures.a in
    let three = c.leaves_at-third.ensures.a in
    let last = c.leaves_at-fourth.ensures.a in
    quad_is vec_items g.T.TreeHash.digest_of c.args.a.now one.0 two.0 three.0 last.0 _ _ _ _ _ _ _
    c.requires.a one.1 two.1 three.1 last.1
    one.2 two.2 three.2 last.2 (c.hash_level-left.ensures 0 (omega arith)) (c.hash_level-right.ensures 0 (omega arith)) (c.hash_level-top.ensures 0 (omega arith))

pub returns-clause-b : goal.returns-clause-b
returns-clause-b g c =
    let one = c.leaves_at-first.ensures.b in
    let two = c.leaves_at-second.ensures.b in
    let three = c.leaves_at-third.ensures.b in
    let last = c.leaves_at-fourth.ensures.b in
    quad_is vec_items g.T.TreeHash.digest_of c.args.b.now one.0 two.0 three.0 last.0 _ _ _ _ _ _ _
    c.requires.b one.1 two.1 three.1 last.1
    one.2 two.2 three.2 last.2 (c.hash_level-left.ensures 1 (omega arith)) (c.hash_level-right.ensures 1 (omega arith)) (c.hash_level-top.ensures 1 (omega arith))

pub returns-clause-c : goal.returns-clause-c
returns-clause-c g c =
    let one = c.leaves_at-first.ensures.c in
    let two = c.leaves_at-second.ensures.c in
    let three = c.leaves_at-third.ensures.c in
    let last = c.leaves_at-fourth.ensures.c in
    quad_is vec_items g.T.TreeHash.digest_of c.args.c.now one.0 two.0 three.0 last.0 _ _ _ _ _ _ _
    c.requires.c one.1 two.1 three.1 last.1
    one.2 two.2 three.2 last.2 (c.hash_level-left.ensures 2 (omega arith)) (c.hash_level-right.ensures 2 (omega arith)) (c.hash_level-top.ensures 2 (omega arith))

pub returns-clause-d : goal.returns-clause-d
returns-clause-d g c =
    let one = c.leaves_at-first.ensures.d in
    let two = c.leaves_at-second.ensures.d in
    let three = c.leaves_at-third.ensures.d in
    let last = c.leaves_at-fourth.ensures.d in
    quad_is vec_items g.T.TreeHash.digest_of c.args.d.now one.0 two.0 three.0 last.0 _ _ _ _ _ _ _
    c.requires.d one.1 two.1 three.1 last.1
    one.2 two.2 three.2 last.2 (c.hash_level-left.ensures 3 (omega arith)) (c.hash_level-right.ensures 3 (omega arith)) (c.hash_level-top.ensures 3 (omega arith))
