use Rattle.std.proofs.Common.{arith}
use Rattle.std.proofs.lemmas.Grind.{common_steps}
use Rattle.tl_sequencer.proofs.submitter.Submitter.submit.Goals as goal

pub invariant_of-self-2 : goal.invariant_of-self-2
invariant_of-self-2 g c = grind (arith, common_steps)

pub returns-clause-lane : goal.returns-clause-lane
returns-clause-lane g c = grind (arith, common_steps)

pub returns-clause-number : goal.returns-clause-number
returns-clause-number g c = grind (arith, common_steps)

pub returns-clause-sent : goal.returns-clause-sent
returns-clause-sent g c = grind (arith, common_steps)

pub returns-in-Err-Full-clause-back : goal.returns-in-Err-Full-clause-back
returns-in-Err-Full-clause-back g c = grind (arith, common_steps)

pub returns-in-Err-Full-clause-lane : goal.returns-in-Err-Full-clause-lane
returns-in-Err-Full-clause-lane g c = grind (arith, common_steps)

pub returns-in-Err-Full-clause-same : goal.returns-in-Err-Full-clause-same
returns-in-Err-Full-clause-same g c = grind (arith, common_steps)

pub returns-in-Err-Full-clause-why : goal.returns-in-Err-Full-clause-why
returns-in-Err-Full-clause-why g c = grind (arith, common_steps)

pub returns-then-self-clause-why : goal.returns-then-self-clause-why
returns-then-self-clause-why g c = grind (arith, common_steps)
