use Rattle.std.proofs.Common.{arith}
use Rattle.std.proofs.lemmas.Grind.{common_steps}
use Rattle.tl_sequencer.proofs.Keeps.{new-kept}
use Rattle.tl_sequencer.proofs.sequencer.Sequencer.new.Goals as goal

pub invariant_of-result : goal.invariant_of-result
invariant_of-result g c = new-kept _ _ _ _ _ _ c.new.ensures.items c.new-2.ensures.items (omega arith) (omega arith) c.requires.short c.requires.lanes _ (omega arith) c.requires.places

pub returns : goal.returns
returns g c = grind (arith, common_steps)
