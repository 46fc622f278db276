use Rattle.std.proofs.Common.{slice_index, arith}
use Rattle.tl_lanes.proofs.Rotating.{nested_three}
use Rattle.tl_lanes.proofs.LaneLemmas.{lane_fits}
use Rattle.tl_lanes.proofs.quad.upper_sigma1.Goals as goal

pub returns : goal.returns
returns c j h =
    let word = lane_fits c.args.x c.fits-x.0 c.fits-x.1 j h in
    rw (
      c.rotr-3.ensures j h,
      c.xor-outer.ensures j h,
      c.rotr-2.ensures j h,
      c.xor-inner.ensures j h,
      c.rotr.ensures j h,
    )
    (nested_three (slice_index c.args.x j) 14 5 6 word (omega arith) (omega arith) (omega arith) (omega arith))
