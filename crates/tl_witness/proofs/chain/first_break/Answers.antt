use Rattle.std.proofs.Common.{refl}
use Rattle.std.proofs.lemmas.List.{take_all}
use Rattle.tl_proof.specs.Acceptance.{step_of}
use Rattle.tl_witness.proofs.ChainLaws.{come_first, come_more, come_break}
use Rattle.tl_witness.proofs.chain.first_break.Goals as goal

pub loop-i-init : goal.loop-i-init
loop-i-init g c = rw c.empty_hash-root.ensures (come_first g.T.TreeHash.digest_of step_of c.args.links.now)

pub returns-then-not-check_tree : goal.returns-then-not-check_tree
returns-then-not-check_tree g c =
    let apart = rw c.as_slice.ensures at c.if-not-check_tree.ensures.1 in
    come_break g.T.TreeHash.digest_of step_of c.args.links.now c.loop-i.i c.loop-i.size c.loop-i.root c.index-links-i.result c.loop-i-test.true c.index-links-i.is
    c.loop-i.invariant (λ follows. let wrong = apart follows in absurd cc)

pub loop-i-preserved : goal.loop-i-preserved
loop-i-preserved g c =
    let follows = rw c.as_slice.ensures at (c.if-not-check_tree.ensures.0 refl) in
    come_more g.T.TreeHash.digest_of step_of c.args.links.now c.loop-i.i c.loop-i.size c.loop-i.root c.index-links-i.result c.loop-i-test.true c.index-links-i.is
    c.loop-i.invariant follows c.is_of_hashes.ensures

pub returns : goal.returns
returns g c = rw (take_all c.loop-i.i c.args.links.now c.loop-i-test.false) at c.loop-i.invariant.chain
