use Rattle.std.proofs.Common.{◌↔◌, All, length}
use Rattle.tl_proof.specs.Acceptance.{AcceptsInclusion}
use Rattle.tl_records.proofs.checking.check_records.Given as goal

-- all are accepted if all that are left are
abbrev pub invariant-loop-left : goal.invariant-loop-left
invariant-loop-left g l =
    All (λ r. AcceptsInclusion g.T.TreeHash.digest_of r.proof.now l.size l.root r.index r.leaf) l.records
    ↔ All (λ r. AcceptsInclusion g.T.TreeHash.digest_of r.proof.now l.size l.root r.index r.leaf) l.left

abbrev pub decreases-loop-left : goal.decreases-loop-left
decreases-loop-left g l = length l.left
