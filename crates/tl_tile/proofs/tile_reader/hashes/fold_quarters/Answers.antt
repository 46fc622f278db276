use Rattle.std.proofs.Common.{arith}
use Rattle.tl_tile.proofs.Parts.{part-at, part-quarters}
use Rattle.tl_tile.proofs.tile_reader.hashes.fold_quarters.Goals as goal

pub returns : goal.returns
returns g c =
    let H = g.T.TreeHash.digest_of in
    let text = c.args.text.now in
    let start = c.args.start in
    let q = c.args.quarter in
    let four = c.fold_four_parts-four.result in
    let parts = c.fold_four_parts-four.ensures in
    part-quarters H text start q _ _ _ _
    c.node_hash-left.result c.node_hash-right.result c.node_hash.result c.requires.power c.requires.some
    (part-at H text start q 0 four c.index-four-0.result (omega arith) parts.a)
    (part-at H text _ q 1 four c.index-four-1.result (omega arith) parts.b)
    (part-at H text _ q 2 four c.index-four-2.result (omega arith) parts.c)
    (part-at H text _ q 3 four c.index-four-3.result (omega arith) parts.d)
    c.node_hash-left.ensures c.node_hash-right.ensures c.node_hash.ensures
