use Rattle.std.proofs.Common.{ℕ, ◌/◌, ◌^◌, slice_index, bit_xor, ap, arith}
use Rattle.tl_lanes.proofs.Rotating.{nested_two}
use Rattle.tl_lanes.proofs.LaneLemmas.{lane_fits}
use Rattle.tl_lanes.proofs.quad.lower_sigma1.Goals as goal

pub returns : goal.returns
returns c j h =
    let word = lane_fits c.args.x c.fits-x.0 c.fits-x.1 j h in
    let shifted = slice_index c.args.x j / 2 ^ 10 in
    rw (c.xor.ensures j h, c.rotr-2.ensures j h, c.shr.ensures j h, c.xor-inner.ensures j h, c.rotr.ensures j h)
    (ap (λ (y : ℕ). bit_xor y shifted) (nested_two (slice_index c.args.x j) 2 17 word (omega arith) (omega arith) (omega arith)))
