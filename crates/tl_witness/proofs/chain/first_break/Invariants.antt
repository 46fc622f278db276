use Rattle.tl_proof.specs.Acceptance.{step_of}
use Rattle.tl_witness.proofs.ChainLaws.{HasCome}
use Rattle.tl_witness.proofs.chain.first_break.Given as goal

-- the links so far are a chain, and lead to this size and root
abbrev pub invariant-loop-i : goal.invariant-loop-i
invariant-loop-i g l = HasCome g.T.TreeHash.digest_of step_of l.links l.i l.size l.root
