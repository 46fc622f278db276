use Rattle.std.proofs.Common.{◌+◌, ◌*◌, refl, arith}
use Rattle.tl_tile.proofs.Parts.{part-one, part-split, part-same}
use Rattle.tl_tile.proofs.tile_reader.hashes.+fold_four_parts.Goals as goal

pub returns-then-count-eq1-clause-a : goal.returns-then-count-eq1-clause-a
returns-then-count-eq1-clause-a g t c = part-one g.T.TreeHash.digest_of c.args.text.now _ c.args.count _ c.if-count-eq1.true c.hash_in.ensures

pub returns-then-count-eq1-clause-b : goal.returns-then-count-eq1-clause-b
returns-then-count-eq1-clause-b g t c = part-one g.T.TreeHash.digest_of c.args.text.now _ c.args.count _ c.if-count-eq1.true c.hash_in-then-count-eq1.ensures

pub returns-then-count-eq1-clause-c : goal.returns-then-count-eq1-clause-c
returns-then-count-eq1-clause-c g t c = part-one g.T.TreeHash.digest_of c.args.text.now _ c.args.count _ c.if-count-eq1.true c.hash_in-then-count-eq1-2.ensures

pub returns-then-count-eq1-clause-d : goal.returns-then-count-eq1-clause-d
returns-then-count-eq1-clause-d g t c = part-one g.T.TreeHash.digest_of c.args.text.now _ c.args.count _ c.if-count-eq1.true c.hash_in-then-count-eq1-3.ensures

pub returns-clause-a : goal.returns-clause-a
returns-clause-a g t c =
    part-split g.T.TreeHash.digest_of c.args.text.now _ c.args.count c.split_point-k.result _ _ _
    c.split_point-k.ensures c.fold_four_parts-left.ensures.a c.fold_four_parts-right.ensures.a (c.hash_level.ensures 0 (omega arith))

pub returns-clause-b : goal.returns-clause-b
returns-clause-b g t c =
    part-split g.T.TreeHash.digest_of c.args.text.now _ c.args.count c.split_point-k.result _ _ _
    c.split_point-k.ensures c.fold_four_parts-left.ensures.b
    (part-same g.T.TreeHash.digest_of c.args.text.now _ (c.args.start + c.args.apart + c.split_point-k.result) _ _ _ (omega arith) refl c.fold_four_parts-right.ensures.b)
    (c.hash_level.ensures 1 (omega arith))

pub returns-clause-c : goal.returns-clause-c
returns-clause-c g t c =
    part-split g.T.TreeHash.digest_of c.args.text.now _ c.args.count c.split_point-k.result _ _ _
    c.split_point-k.ensures c.fold_four_parts-left.ensures.c
    (part-same g.T.TreeHash.digest_of c.args.text.now _ (c.args.start + 2 * c.args.apart + c.split_point-k.result) _ _ _ (omega arith) refl c.fold_four_parts-right.ensures.c)
    (c.hash_level.ensures 2 (omega arith))

pub returns-clause-d : goal.returns-clause-d
returns-clause-d g t c =
    part-split g.T.TreeHash.digest_of c.args.text.now _ c.args.count c.split_point-k.result _ _ _
    c.split_point-k.ensures c.fold_four_parts-left.ensures.d
    (part-same g.T.TreeHash.digest_of c.args.text.now _ (c.args.start + 3 * c.args.apart + c.split_point-k.result) _ _ _ (omega arith) refl c.fold_four_parts-right.ensures.d)
    (c.hash_level.ensures 3 (omega arith))
