use Rattle.std.proofs.Common.{vec_items, refl}
use Rattle.std.proofs.lemmas.List.{take_rest}
use Rattle.tl_proof.proofs.ForkedLists.{lists_walk-one, lists_walk-firsts, lists_walk-rests}
use Rattle.tl_proof.proofs.audit.list_walk.+walk_lists.Goals as goal

pub returns-then-n-eq1 : goal.returns-then-n-eq1
returns-then-n-eq1 g t c =
    let old_leaf = rw c.as_slice.ensures.value at c.leaf_hash.ensures in
    let new_leaf = rw c.as_slice-then-n-eq1.ensures.value at c.leaf_hash-then-n-eq1.ensures in
    lists_walk-one vec_items g.T.TreeHash.digest_of c.args.place c.args.old.now c.args.new.now c.index-old-0.result c.index-new-0.result _
    c.if-n-eq1.true c.requires.one_length c.requires.within c.index-old-0.is c.index-new-0.is old_leaf new_leaf refl

pub returns-then-place-k : goal.returns-then-place-k
returns-then-place-k g t c =
    let old_rest = rw (take_rest c.args.old.now c.split_point-k.result) at c.entry_root-old_rest.ensures in
    let new_rest = rw (take_rest c.args.new.now c.split_point-k.result) at c.entry_root-new_rest.ensures in
    let over = c.walk_to.ensures in
    lists_walk-firsts vec_items g.T.TreeHash.digest_of c.split_point-k.result c.args.place c.args.old.now c.args.new.now
    c.entry_root-old_rest.result c.entry_root-new_rest.result c.walk_lists-below.result c.walk_to.result
    c.split_point-k.ensures c.requires.one_length c.if-place-k.true c.walk_lists-below.ensures old_rest new_rest over.first over.second over.fork

pub returns-else-place-k : goal.returns-else-place-k
returns-else-place-k g t c =
    let under = rw (take_rest c.args.old.now c.split_point-k.result, take_rest c.args.new.now c.split_point-k.result) at c.walk_lists-below-else-place-k.ensures in
    let over = c.walk_to-else-place-k.ensures in
    lists_walk-rests vec_items g.T.TreeHash.digest_of c.split_point-k.result c.args.place c.args.old.now c.args.new.now
    c.entry_root-old_first.result c.entry_root-new_first.result c.walk_lists-below-else-place-k.result c.walk_to-else-place-k.result
    c.split_point-k.ensures c.requires.one_length c.if-place-k.false under c.entry_root-old_first.ensures c.entry_root-new_first.ensures over.first over.second over.fork
