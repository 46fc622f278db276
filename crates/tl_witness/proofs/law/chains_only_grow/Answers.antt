use Rattle.tl_witness.proofs.RunLaws.{chains_only_grow}
use Rattle.tl_witness.proofs.law.chains_only_grow.Goals as goal

pub returns : goal.returns
returns c = chains_only_grow
