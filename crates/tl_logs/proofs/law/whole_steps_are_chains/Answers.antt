use Rattle.tl_logs.proofs.WholeChains.{whole_chain}
use Rattle.tl_logs.proofs.law.whole_steps_are_chains.Goals as goal

pub returns : goal.returns
returns c = whole_chain
