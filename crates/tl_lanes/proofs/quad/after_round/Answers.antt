use Rattle.std.proofs.Common.{refl}
use Rattle.tl_lanes.proofs.quad.after_round.Goals as goal

pub returns : goal.returns
returns c j h =
    rw (
      c.add-3.ensures j h,
      c.add-4.ensures j h,
      c.add-t2.ensures j h,
      c.upper_sigma0.ensures j h,
      c.majority.ensures j h,
      c.add-t1.ensures j h,
      c.add-2.ensures j h,
      c.splat.ensures j h,
      c.add-mixed.ensures j h,
      c.add.ensures j h,
      c.upper_sigma1.ensures j h,
      c.choose.ensures j h,
    ) refl
