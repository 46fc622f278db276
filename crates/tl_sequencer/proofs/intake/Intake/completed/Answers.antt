use Rattle.std.proofs.Common.{arith}
use Rattle.std.proofs.lemmas.Grind.{common_steps}
use Rattle.tl_sequencer.proofs.Logs.{complete-merge, all-ended}
use Rattle.tl_sequencer.proofs.Held.{counted-log}
use Rattle.tl_sequencer.proofs.intake.Intake.completed.Goals as goal

pub returns-in-None-clause-merge : goal.returns-in-None-clause-merge
returns-in-None-clause-merge g c =
    rw (← c.self.view_is) (complete-merge _ c.self.invariant.log (all-ended _ c.self.invariant.log (rw c.deref.ensures.value at c.in-None.ensures)))

pub returns-in-None-clause-complete : goal.returns-in-None-clause-complete
returns-in-None-clause-complete g c =
    rw (← c.self.view_is) (all-ended _ c.self.invariant.log (rw c.deref.ensures.value at c.in-None.ensures), counted-log _ _ _ _ _ c.self.invariant)

pub returns-in-None-clause-parts : goal.returns-in-None-clause-parts
returns-in-None-clause-parts g c = grind (arith, common_steps)

pub returns-in-Some-clause-parts : goal.returns-in-Some-clause-parts
returns-in-Some-clause-parts g c = grind (arith, common_steps)
