use Rattle.std.proofs.Common.{length}
use Rattle.tl_witness.proofs.ProofLines.{HasCounted}
use Rattle.tl_witness.proofs.request.cut_proof.Given as goal

abbrev pub invariant-loop-left : goal.invariant-loop-left
invariant-loop-left l = HasCounted l.text l.count l.left

abbrev pub decreases-loop-left : goal.decreases-loop-left
decreases-loop-left l = length l.left
