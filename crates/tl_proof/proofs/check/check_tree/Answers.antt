use Rattle.std.proofs.Common.{◌<◌, arith}
use Rattle.std.proofs.lemmas.Bool.{false≢true}
use Rattle.tl_proof.proofs.Checks.{AcceptsConsistency-same, AcceptsConsistency-none, AcceptsConsistency-between, AcceptsConsistency-beyond, iff_trans}
use Rattle.tl_proof.proofs.check.check_tree.Goals as goal

pub returns-then-old-size : goal.returns-then-old-size
returns-then-old-size g c =
    iff_trans c.empty_and_same.ensures
    (AcceptsConsistency-same g.T.TreeHash.digest_of c.args.proof.now c.args.size c.args.root c.args.old c.args.old_root c.if-old-size.true)

pub returns-then-old-eq0 : goal.returns-then-old-eq0
returns-then-old-eq0 g c =
    iff_trans (rw c.empty_hash.ensures at c.empty_and_same-then-old-eq0.ensures)
    (AcceptsConsistency-none g.T.TreeHash.digest_of c.args.proof.now c.args.size c.args.root c.args.old c.args.old_root c.if-old-eq0.true c.if-old-size.false)

pub returns-then-old-size-2 : goal.returns-then-old-size-2
returns-then-old-size-2 g c =
    iff_trans (rw c.lead_roots.ensures at c.found_roots.ensures)
    (AcceptsConsistency-between g.T.TreeHash.digest_of c.args.proof.now c.args.size c.args.root c.args.old c.args.old_root c.if-old-eq0.false c.if-old-size-2.true)

pub returns-else-old-size-2 : goal.returns-else-old-size-2
returns-else-old-size-2 g c =
    let beyond : c.args.size < c.args.old = omega (arith, c.if-old-size.false, c.if-old-size-2.false) in (
      λ e. absurd (false≢true e),
      λ a. absurd (AcceptsConsistency-beyond g.T.TreeHash.digest_of c.args.proof.now c.args.size c.args.root c.args.old c.args.old_root beyond a),
    )
