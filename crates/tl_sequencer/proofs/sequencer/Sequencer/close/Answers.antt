use Rattle.std.proofs.Common.{refl}
use Rattle.tl_sequencer.proofs.Logs.{complete-merge, all-ended}
use Rattle.tl_sequencer.proofs.sequencer.Sequencer.close.Goals as goal

pub returns-in-None-clause-merge : goal.returns-in-None-clause-merge
returns-in-None-clause-merge g c = rw c.new.ensures (complete-merge _ c.open_lane.ensures.kept (all-ended _ c.open_lane.ensures.kept c.in-None.ensures.first))

pub returns-in-None-clause-complete : goal.returns-in-None-clause-complete
returns-in-None-clause-complete g c = rw c.new.ensures (refl, all-ended _ c.open_lane.ensures.kept c.in-None.ensures.first)

pub new-requires : goal.new-requires
new-requires g c = all-ended _ c.open_lane.ensures.kept c.in-None.ensures.first
