use Rattle.std.proofs.Common.{refl, arith}
use Rattle.tl_hash.proofs.SplitLemmas.{half_of_power}
use Rattle.tl_tile.proofs.Parts.{part-one, part-split, part-same}
use Rattle.tl_tile.proofs.tile_reader.hashes.+fold_part.Goals as goal

pub returns-then-count-eq1 : goal.returns-then-count-eq1
returns-then-count-eq1 g t c = part-one g.T.TreeHash.digest_of c.args.text.now c.args.start c.args.count _ c.if-count-eq1.true c.hash_in.ensures

pub fold_quarters-requires-clause-power : goal.fold_quarters-requires-clause-power
fold_quarters-requires-clause-power g t c = (half_of_power c.split_point-k.result c.split_point-k.ensures.power (omega arith)).0

pub fold_quarters-requires-clause-inside : goal.fold_quarters-requires-clause-inside
fold_quarters-requires-clause-inside g t c =
    let even = half_of_power c.split_point-k.result c.split_point-k.ensures.power (omega arith) in
    omega (arith, even.1)

pub returns-then-count-k : goal.returns-then-count-k
returns-then-count-k g t c =
    let even = half_of_power c.split_point-k.result c.split_point-k.ensures.power (omega arith) in
    part-same g.T.TreeHash.digest_of c.args.text.now c.args.start c.args.start _ c.args.count _ refl (omega (arith, even.1)) c.fold_quarters.ensures

pub returns : goal.returns
returns g t c =
    part-split g.T.TreeHash.digest_of c.args.text.now c.args.start c.args.count c.split_point-k.result c.fold_part-left.result c.fold_part-right.result c.node_hash.result
    c.split_point-k.ensures c.fold_part-left.ensures c.fold_part-right.ensures c.node_hash.ensures
