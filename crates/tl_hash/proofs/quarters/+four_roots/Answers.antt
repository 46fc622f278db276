use Rattle.std.proofs.Common.{vec_items, arith}
use Rattle.std.proofs.lemmas.List.{take_rest}
use Rattle.tl_hash.proofs.TreeLemmas.{tree_hash-map_one, tree_hash-of_parts}
use Rattle.tl_hash.proofs.quarters.+four_roots.Goals as goal

pub returns-then-a-eq1-clause-a : goal.returns-then-a-eq1-clause-a
returns-then-a-eq1-clause-a g t c =
    let one = tree_hash-map_one vec_items g.T.TreeHash.digest_of c.args.a.now c.index-a-0.result (omega arith) c.index-a-0.is in
    let leaf = rw c.deref.ensures.value at c.digest_four.ensures.a in
    cc (one, leaf)

pub returns-then-a-eq1-clause-b : goal.returns-then-a-eq1-clause-b
returns-then-a-eq1-clause-b g t c =
    let one = tree_hash-map_one vec_items g.T.TreeHash.digest_of c.args.b.now c.index-b-0.result (omega arith) c.index-b-0.is in
    let leaf = rw c.deref-then-a-eq1.ensures.value at c.digest_four.ensures.b in
    cc (one, leaf)

pub returns-then-a-eq1-clause-c : goal.returns-then-a-eq1-clause-c
returns-then-a-eq1-clause-c g t c =
    let one = tree_hash-map_one vec_items g.T.TreeHash.digest_of c.args.c.now c.index-c-0.result (omega arith) c.index-c-0.is in
    let leaf = rw c.deref-then-a-eq1-2.ensures.value at c.digest_four.ensures.c in
    cc (one, leaf)

pub returns-then-a-eq1-clause-d : goal.returns-then-a-eq1-clause-d
returns-then-a-eq1-clause-d g t c =
    let one = tree_hash-map_one vec_items g.T.TreeHash.digest_of c.args.d.now c.index-d-0.result (omega arith) c.index-d-0.is in
    let leaf = rw c.deref-then-a-eq1-3.ensures.value at c.digest_four.ensures.d in
    cc (one, leaf)

pub returns-clause-a : goal.returns-clause-a
returns-clause-a g t c =
    let k = c.split_point-k.result in
    let left = c.four_roots-left.ensures.a in
    let right = rw (take_rest c.args.a.now k) at c.four_roots-right.ensures.a in
    tree_hash-of_parts vec_items g.T.TreeHash.digest_of k c.args.a.now _ _ _ c.split_point-k.ensures left right (c.hash_level.ensures 0 (omega arith))

pub returns-clause-b : goal.returns-clause-b
returns-clause-b g t c =
    let k = c.split_point-k.result in
    let left = c.four_roots-left.ensures.b in
    let right = rw (take_rest c.args.b.now k) at c.four_roots-right.ensures.b in
    tree_hash-of_parts vec_items g.T.TreeHash.digest_of k c.args.b.now _ _ _ (rw c.requires.b c.split_point-k.ensures) left right (c.hash_level.ensures 1 (omega arith))

pub returns-clause-c : goal.returns-clause-c
returns-clause-c g t c =
    let k = c.split_point-k.result in
    let left = c.four_roots-left.ensures.c in
    let right = rw (take_rest c.args.c.now k) at c.four_roots-right.ensures.c in
    tree_hash-of_parts vec_items g.T.TreeHash.digest_of k c.args.c.now _ _ _ (rw c.requires.c c.split_point-k.ensures) left right (c.hash_level.ensures 2 (omega arith))

pub returns-clause-d : goal.returns-clause-d
returns-clause-d g t c =
    let k = c.split_point-k.result in
    let left = c.four_roots-left.ensures.d in
    let right = rw (take_rest c.args.d.now k) at c.four_roots-right.ensures.d in
    tree_hash-of_parts vec_items g.T.TreeHash.digest_of k c.args.d.now _ _ _ (rw c.requires.d c.split_point-k.ensures) left right (c.hash_level.ensures 3 (omega arith))
