use Rattle.tl_witness.proofs.ChainLaws.{chain-none}
use Rattle.tl_witness.proofs.chain.Chain.new.Goals as goal

pub invariant_of-result : goal.invariant_of-result
invariant_of-result g c = rw c.new.ensures.items (chain-none g.T.TreeHash.digest_of)
