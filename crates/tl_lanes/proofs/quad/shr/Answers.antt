use Rattle.tl_lanes.proofs.LaneLemmas.{shift_lanes}
use Rattle.tl_lanes.proofs.quad.shr.Goals as goal

pub returns : goal.returns
returns c = shift_lanes c.args.k c.args.x c.fits-x.0
