use Rattle.std.proofs.Common.{◌∙◌, sym}
use Rattle.std.proofs.lemmas.Bool.{eq-eqb, ne_eqb}
use Rattle.tl_proof.proofs.Checks.{lead_leaf-none, lead_leaf-small, lead_leaf-left, lead_leaf-right}
use Rattle.tl_proof.proofs.check.+lead_leaf.Goals as goal

pub returns-then-size-eq1 : goal.returns-then-size-eq1
returns-then-size-eq1 g t c =
    sym (rw (eq-eqb _ 1 c.if-size-eq1.true) at (lead_leaf-none g.T.TreeHash.digest_of c.args.index c.args.size c.args.proof.now c.args.start c.if-n-eq0.true))

pub returns-else-size-eq1 : goal.returns-else-size-eq1
returns-else-size-eq1 g t c =
    sym (rw (ne_eqb _ 1 c.if-size-eq1.false) at (lead_leaf-none g.T.TreeHash.digest_of c.args.index c.args.size c.args.proof.now c.args.start c.if-n-eq0.true))

pub returns-then-size-le1 : goal.returns-then-size-le1
returns-then-size-le1 g t c =
    sym (lead_leaf-small g.T.TreeHash.digest_of c.args.index c.args.size c.args.proof.now c.index-proof-n.result c.args.start c.if-n-eq0.false c.index-proof-n.is c.if-size-le1.true)

pub returns-then-index-k : goal.returns-then-index-k
returns-then-index-k g t c =
    let step = lead_leaf-left g.T.TreeHash.digest_of c.split_point-k.result c.args.index c.args.size c.args.proof.now c.index-proof-n.result c.args.start c.if-n-eq0.false c.index-proof-n.is c.split_point-k.ensures c.if-index-k.true in
    rw c.lead_leaf.ensures at c.join_right.ensures ∙ sym step

pub returns-else-index-k : goal.returns-else-index-k
returns-else-index-k g t c =
    let step = lead_leaf-right g.T.TreeHash.digest_of c.split_point-k.result c.args.index c.args.size c.args.proof.now c.index-proof-n.result c.args.start c.if-n-eq0.false c.index-proof-n.is c.split_point-k.ensures c.if-index-k.false in
    rw c.lead_leaf-else-index-k.ensures at c.join_left.ensures ∙ sym step
