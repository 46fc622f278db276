use Rattle.std.proofs.Common.{arith}
use Rattle.tl_records.proofs.LaneSteps.{accepts-at, iff_four, iff_both}
use Rattle.tl_records.proofs.checking.accepts_four.Goals as goal

pub returns-in-Some : goal.returns-in-Some
returns-in-Some g c =
    let H = g.T.TreeHash.digest_of in
    let size = c.args.size in
    let root = c.args.root in
    let roots = c.in-Some.roots in
    let first = accepts-at H c.args.a.now.proof.now size root c.args.a.now.index c.args.a.now.leaf c.index-roots-0.result roots 0 (omega arith) c.in-Some.ensures.a in
    let second = accepts-at H c.args.b.now.proof.now size root c.args.b.now.index c.args.b.now.leaf c.index-roots-1.result roots 1 (omega arith) c.in-Some.ensures.b in
    let third = accepts-at H c.args.c.now.proof.now size root c.args.c.now.index c.args.c.now.leaf c.index-roots-2.result roots 2 (omega arith) c.in-Some.ensures.c in
    let fourth = accepts-at H c.args.d.now.proof.now size root c.args.d.now.index c.args.d.now.leaf c.index-roots-3.result roots 3 (omega arith) c.in-Some.ensures.d in
    iff_four c.all_four.ensures (iff_both c.reaches.ensures first) (iff_both c.reaches-in-Some.ensures second) (iff_both c.reaches-in-Some-2.ensures third) (iff_both c.reaches-in-Some-3.ensures fourth)
