use Rattle.std.proofs.Common.{arith}
use Rattle.tl_sequencer.proofs.Held.{new-held}
use Rattle.tl_sequencer.proofs.intake.Intake.new.Goals as goal

pub invariant_of-result : goal.invariant_of-result
invariant_of-result g c = new-held _ _ _ _ c.new-2.ensures c.new.ensures.items (omega arith) c.requires.lanes
