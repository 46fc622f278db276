use Rattle.std.proofs.Common.{sym}
use Rattle.tl_lanes.specs.Inner.Columns.{column}
use Rattle.tl_lanes.specs.Lanes.{lane}
use Rattle.tl_lanes.proofs.LaneLemmas.{column_at}
use Rattle.tl_lanes.proofs.Ring.{early_round}
use Rattle.tl_lanes.proofs.quad.early_round.Goals as goal

pub returns : goal.returns
returns c = λ j lt b h ring held.
    early_round b h (column j c.args.ring.now) (lane j c.args.vars) _ c.args.t _ c.requires ring held
    (sym (column_at c.args.ring.now c.args.t j)) (c.after_round.ensures j lt)
