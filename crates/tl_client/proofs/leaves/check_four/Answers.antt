use Rattle.std.proofs.Common.{◌≡◌, ◌+◌, length, map, vec_items, sym, ◌∙◌, arith}
use Rattle.tl_client.proofs.FourLeaves.{hash_at, leaves_next, leaves_none}
use Rattle.tl_client.proofs.leaves.check_four.Goals as goal

pub loop-j-init : goal.loop-j-init
loop-j-init g c = leaves_none c.args.from (c.args.from + 0) (map vec_items c.args.entries.now) c.args.leaves.now (omega arith)

pub check_place-requires-clause-hash : goal.check_place-requires-clause-hash
check_place-requires-clause-hash g c =
    let many : length c.hash_four-hashes.result ≡ 4 = search in
    sym c.index-hashes-j.is
    ∙ hash_at c.hash_four-hashes.result c.loop-j.j c.index-hashes-j.result _ (omega (arith, many, c.loop-j-test.true)) c.index-hashes-j.is (c.hash_four-hashes.ensures c.loop-j.j c.loop-j-test.true)

pub loop-j-preserved : goal.loop-j-preserved
loop-j-preserved g c =
    leaves_next c.args.from (c.args.from + c.loop-j.j) (c.args.from + (c.loop-j.j + 1)) (map vec_items c.args.entries.now) c.args.leaves.now c.loop-j.invariant c.in_ok-check_place.ensures.leaf (omega arith)
