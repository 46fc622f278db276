use Rattle.tl_proof.proofs.SegmentReads.{RootsSoFar}
use Rattle.tl_proof.proofs.read.group_hashes.Given as goal

abbrev pub invariant-loop-segment : goal.invariant-loop-segment
invariant-loop-segment g l = RootsSoFar g.T.TreeHash.digest_of l.segments l.hashes l.segment-index l.from l.roots.items
