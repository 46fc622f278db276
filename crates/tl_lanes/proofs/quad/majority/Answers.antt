use Rattle.std.proofs.Common.{slice_index}
use Rattle.tl_lanes.proofs.Bitwise.{maj_is}
use Rattle.tl_lanes.proofs.quad.majority.Goals as goal

pub returns : goal.returns
returns c j h =
    rw (c.xor-3.ensures j h, c.and.ensures j h, c.xor-2.ensures j h, c.xor.ensures j h)
    (maj_is (slice_index c.args.x j) (slice_index c.args.y j) (slice_index c.args.z j))
