use Rattle.tl_proof.proofs.Equations.{root_from_leaf-left, root_from_leaf-right}
use Rattle.tl_records.proofs.checking.last_turn.Goals as goal

pub returns-then-lane-k : goal.returns-then-lane-k
returns-then-lane-k c H last others =
    root_from_leaf-left H c.split_point-k.result c.args.lane.index c.args.lane.size last others c.args.lane.leaf c.split_point-k.ensures c.if-lane-k.true

pub returns-else-lane-k : goal.returns-else-lane-k
returns-else-lane-k c H last others =
    root_from_leaf-right H c.split_point-k.result c.args.lane.index c.args.lane.size last others c.args.lane.leaf c.split_point-k.ensures c.if-lane-k.false
