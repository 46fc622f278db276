use Rattle.std.proofs.Common.{◌≡◌, ◌∙◌, ◌*◌, [], vec_items, drop, take, length, arith}
use Rattle.std.proofs.lemmas.List.{get_or_default, length-take-le, length-drop}
use Rattle.tl_hash.specs.Split.{IsSplit}
use Rattle.tl_hash.proofs.SplitLemmas.{IsPowerOfTwo-twice, IsSplit-twice}
use Rattle.tl_hash.proofs.TreeLemmas.{tree_hash-of_parts}
use Rattle.tl_hash.proofs.quarters.quarters_root.Goals as goal

pub returns : goal.returns
returns g c =
    let H = g.T.TreeHash.digest_of in
    let xs = c.args.entries.now in
    let q = c.args.q in
    let k = 2 * q in
    let four = c.four_roots-four.result in
    let roots = c.four_roots-four.ensures in
    let halves = c.split_at.ensures in
    let left_len : length (take k xs) ≡ k = length-take-le k xs (omega arith) in
    let right_len : length (drop k xs) ≡ k = omega (arith, length-drop k xs) in
    let whole : length xs ≡ 2 * k = omega arith in
    let half = IsSplit-twice q c.requires.power c.requires.some in
    let split : IsSplit k (length xs) = rw whole (IsSplit-twice k (IsPowerOfTwo-twice q c.requires.power) (omega arith)) in
    let left_split : IsSplit q (length (take k xs)) = rw left_len half in
    let right_split : IsSplit q (length (drop k xs)) = rw right_len half in
    let root_a = get_or_default four 0 c.index-four-0.result [] (omega arith) ∙ rw (c.split_at-2.ensures.front, halves.front) at roots.a in
    let root_b = get_or_default four 1 c.index-four-1.result [] (omega arith) ∙ rw (c.split_at-2.ensures.back, halves.front) at roots.b in
    let root_c = get_or_default four 2 c.index-four-2.result [] (omega arith) ∙ rw (c.split_at-3.ensures.front, halves.back) at roots.c in
    let root_d = get_or_default four 3 c.index-four-3.result [] (omega arith) ∙ rw (c.split_at-3.ensures.back, halves.back) at roots.d in
    let left = tree_hash-of_parts vec_items H q (take k xs) _ _ _ left_split root_a root_b c.node_hash-first.ensures in
    let right = tree_hash-of_parts vec_items H q (drop k xs) _ _ _ right_split root_c root_d c.node_hash-second.ensures in
    tree_hash-of_parts vec_items H k xs _ _ _ split left right c.node_hash.ensures
