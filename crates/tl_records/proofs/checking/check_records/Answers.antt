use Rattle.tl_proof.specs.Acceptance.{AcceptsInclusion}
use Rattle.std.proofs.lemmas.List.{take_rest}
use Rattle.tl_records.proofs.LaneSteps.{All-four}
use Rattle.tl_records.proofs.checking.check_records.Goals as goal

pub loop-left-preserved : goal.loop-left-preserved
loop-left-preserved g c =
    let four = All-four (λ r. AcceptsInclusion g.T.TreeHash.digest_of r.proof.now c.args.size c.args.root r.index r.leaf) c.loop-left.left.now _ _ _ _ _
    c.in-len4-up.len_at_least c.first-item.is c.second-item.is c.third-item.is c.fourth-item.is (take_rest c.loop-left.left.now 4) in
    (λ all. (four.0 (c.loop-left.invariant.0 all)).1, λ rest. c.loop-left.invariant.1 (four.1 (c.accepts_four.ensures.0 c.if-not-accepts_four.false, rest)))
