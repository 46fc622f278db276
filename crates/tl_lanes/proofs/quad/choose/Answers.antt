use Rattle.tl_lanes.proofs.Bitwise.{ch_is}
use Rattle.tl_lanes.proofs.LaneLemmas.{lane_fits}
use Rattle.tl_lanes.proofs.quad.choose.Goals as goal

pub returns : goal.returns
returns c j h =
    let x = lane_fits c.args.x c.fits-x.0 c.fits-x.1 j h in
    let y = lane_fits c.args.y c.fits-y.0 c.fits-y.1 j h in
    let z = lane_fits c.args.z c.fits-z.0 c.fits-z.1 j h in
    rw (c.xor-2.ensures j h, c.and.ensures j h, c.xor.ensures j h) (ch_is _ _ _ x y z)
