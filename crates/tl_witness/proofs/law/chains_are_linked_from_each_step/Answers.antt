use Rattle.tl_witness.proofs.RunLaws.{chains_are_linked}
use Rattle.tl_witness.proofs.law.chains_are_linked_from_each_step.Goals as goal

pub returns : goal.returns
returns c = chains_are_linked
