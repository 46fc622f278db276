use Rattle.tl_witness.proofs.SharedLaws.{later_one}
use Rattle.tl_witness.proofs.guarded.Guarded.into_state.Goals as goal

pub returns : goal.returns
returns g c = later_one g.T.TreeHash.digest_of _ c.into_inner-chain.result c.into_inner-chain.ensures c.is_chain.ensures
