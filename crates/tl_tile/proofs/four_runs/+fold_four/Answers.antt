use Rattle.std.proofs.Common.{arith}
use Rattle.std.proofs.lemmas.List.{take_rest}
use Rattle.tl_tile.proofs.FoldSteps.{folds-parts, folds-single}
use Rattle.tl_tile.proofs.four_runs.+fold_four.Goals as goal

pub returns-then-a-eq1-clause-a : goal.returns-then-a-eq1-clause-a
returns-then-a-eq1-clause-a g t c = folds-single g.T.TreeHash.digest_of c.args.a.now c.index-a-0.result (omega arith) c.index-a-0.is

pub returns-then-a-eq1-clause-b : goal.returns-then-a-eq1-clause-b
returns-then-a-eq1-clause-b g t c = folds-single g.T.TreeHash.digest_of c.args.b.now c.index-b-0.result (omega arith) c.index-b-0.is

pub returns-then-a-eq1-clause-c : goal.returns-then-a-eq1-clause-c
returns-then-a-eq1-clause-c g t c = folds-single g.T.TreeHash.digest_of c.args.c.now c.index-c-0.result (omega arith) c.index-c-0.is

pub returns-then-a-eq1-clause-d : goal.returns-then-a-eq1-clause-d
returns-then-a-eq1-clause-d g t c = folds-single g.T.TreeHash.digest_of c.args.d.now c.index-d-0.result (omega arith) c.index-d-0.is

pub returns-clause-a : goal.returns-clause-a
returns-clause-a g t c =
    folds-parts g.T.TreeHash.digest_of 0 c.split_point-k.result c.args.a.now c.fold_four-left.result c.fold_four-right.result c.hash_level.result c.split_point-k.ensures
    c.fold_four-left.ensures.a (rw take_rest at c.fold_four-right.ensures.a) (c.hash_level.ensures 0 (omega arith))

pub returns-clause-b : goal.returns-clause-b
returns-clause-b g t c =
    folds-parts g.T.TreeHash.digest_of 1 c.split_point-k.result c.args.b.now c.fold_four-left.result c.fold_four-right.result c.hash_level.result (rw c.requires.b c.split_point-k.ensures)
    c.fold_four-left.ensures.b (rw take_rest at c.fold_four-right.ensures.b) (c.hash_level.ensures 1 (omega arith))

pub returns-clause-c : goal.returns-clause-c
returns-clause-c g t c =
    folds-parts g.T.TreeHash.digest_of 2 c.split_point-k.result c.args.c.now c.fold_four-left.result c.fold_four-right.result c.hash_level.result (rw c.requires.c c.split_point-k.ensures)
    c.fold_four-left.ensures.c (rw take_rest at c.fold_four-right.ensures.c) (c.hash_level.ensures 2 (omega arith))

pub returns-clause-d : goal.returns-clause-d
returns-clause-d g t c =
    folds-parts g.T.TreeHash.digest_of 3 c.split_point-k.result c.args.d.now c.fold_four-left.result c.fold_four-right.result c.hash_level.result (rw c.requires.d c.split_point-k.ensures)
    c.fold_four-left.ensures.d (rw take_rest at c.fold_four-right.ensures.d) (c.hash_level.ensures 3 (omega arith))
