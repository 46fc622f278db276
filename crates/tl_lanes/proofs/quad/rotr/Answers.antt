use Rattle.tl_lanes.proofs.LaneLemmas.{shifts_rotate}
use Rattle.tl_lanes.proofs.quad.rotr.Goals as goal

pub returns : goal.returns
returns c = shifts_rotate c.args.k c.requires.0 c.requires.1 c.args.x c.fits-x.0
