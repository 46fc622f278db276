use Rattle.tl_records.proofs.LaneSteps.{lane-leaf}
use Rattle.tl_records.proofs.checking.only_leaves.Goals as goal

pub returns-then-lanes-eq1-4-clause-a : goal.returns-then-lanes-eq1-4-clause-a
returns-then-lanes-eq1-4-clause-a c H = lane-leaf H c.args.lanes.a c.if-lanes-eq1.true

pub returns-then-lanes-eq1-4-clause-b : goal.returns-then-lanes-eq1-4-clause-b
returns-then-lanes-eq1-4-clause-b c H = lane-leaf H c.args.lanes.b c.if-lanes-eq1-2.true

pub returns-then-lanes-eq1-4-clause-c : goal.returns-then-lanes-eq1-4-clause-c
returns-then-lanes-eq1-4-clause-c c H = lane-leaf H c.args.lanes.c c.if-lanes-eq1-3.true

pub returns-then-lanes-eq1-4-clause-d : goal.returns-then-lanes-eq1-4-clause-d
returns-then-lanes-eq1-4-clause-d c H = lane-leaf H c.args.lanes.d c.if-lanes-eq1-4.true
