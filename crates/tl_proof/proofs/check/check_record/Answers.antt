use Rattle.std.proofs.Common.{arith}
use Rattle.std.proofs.lemmas.Bool.{ltb-true}
use Rattle.tl_proof.proofs.Checks.{AcceptsInclusion-within, AcceptsInclusion-beyond, iff_trans}
use Rattle.tl_proof.proofs.check.check_record.Goals as goal

pub returns-then-index-size : goal.returns-then-index-size
returns-then-index-size g c =
    iff_trans (rw c.lead_leaf.ensures at c.found_root.ensures)
    (AcceptsInclusion-within g.T.TreeHash.digest_of c.args.proof.now c.args.size c.args.root c.args.index c.args.leaf c.if-index-size.true)

pub returns-else-index-size : goal.returns-else-index-size
returns-else-index-size g c = (
  λ e. absurd (omega (arith, ltb-true c.args.index c.args.size e, c.if-index-size.false)),
  λ a. absurd (AcceptsInclusion-beyond g.T.TreeHash.digest_of c.args.proof.now c.args.size c.args.root c.args.index c.args.leaf c.if-index-size.false a),
)
