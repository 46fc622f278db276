use Rattle.std.proofs.Common.{◌≤◌, ◌-◌, length, min, take, vec_items, vec_len}
use Rattle.tl_device.specs.Device.{passage}
use Rattle.tl_http.specs.Inner.Bodies.{GrownBody}
use Rattle.tl_http.proofs.body.read_up_to.Given as goal

-- the body so far is what came with the head and what was read since
abbrev pub invariant-loop-alloc : goal.invariant-loop-alloc
invariant-loop-alloc g l = record {
  fits : vec_len l.body ≤ l.most;
  grown : GrownBody (passage g.I.Read.remaining l.fn.reader l.reader) (take (min (length l.begun) l.most) l.begun) (vec_items l.body);
}

abbrev pub decreases-loop-alloc : goal.decreases-loop-alloc
decreases-loop-alloc g l = l.most - vec_len l.body
