use Rattle.std.proofs.Common.{arith}
use Rattle.std.proofs.lemmas.Grind.{common_steps}
use Rattle.tl_sequencer.proofs.Held.{waiting-short}
use Rattle.tl_sequencer.proofs.intake.Intake.waiting.Goals as goal

pub returns-clause-short : goal.returns-clause-short
returns-clause-short g c = rw (← c.self.view_is) (waiting-short _ _ _ c.self.invariant.parts c.self.invariant.log.short)

pub returns-clause-parts : goal.returns-clause-parts
returns-clause-parts g c = grind (arith, common_steps)
