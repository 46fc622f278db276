use Rattle.std.proofs.Common.{arith}
use Rattle.tl_tile.proofs.FoldSteps.{folds-at, folds-quarters}
use Rattle.tl_tile.proofs.four_runs.fold_quarters.Goals as goal

pub returns : goal.returns
returns g c =
    let H = g.T.TreeHash.digest_of in
    let four = c.fold_four-four.result in
    let folds = c.fold_four-four.ensures in
    let halves = c.split_at.ensures in
    let fold_a = folds-at H _ four 0 c.index-four-0.result (omega arith) (rw (c.split_at-2.ensures.front, halves.front) at folds.a) in
    let fold_b = folds-at H _ four 1 c.index-four-1.result (omega arith) (rw (c.split_at-2.ensures.back, halves.front) at folds.b) in
    let fold_c = folds-at H _ four 2 c.index-four-2.result (omega arith) (rw (c.split_at-3.ensures.front, halves.back) at folds.c) in
    let fold_d = folds-at H _ four 3 c.index-four-3.result (omega arith) (rw (c.split_at-3.ensures.back, halves.back) at folds.d) in
    folds-quarters H c.args.quarter c.args.hashes.now _ _ _ _ _ _ _ c.requires.whole c.requires.power c.requires.some
    fold_a fold_b fold_c fold_d c.node_hash-first.ensures c.node_hash-second.ensures c.node_hash.ensures
