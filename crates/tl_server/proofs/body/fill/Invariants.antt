use Rattle.std.proofs.Common.{◌≤◌, ◌-◌, length, take}
use Rattle.tl_device.specs.Device.{passage}
use Rattle.tl_server.specs.Inner.Bodies.{GrownBody}
use Rattle.tl_server.proofs.body.fill.Given as goal

-- the first bytes are those that stood there and what was read since
abbrev pub invariant-loop-len : goal.invariant-loop-len
invariant-loop-len g l = record {
  within : l.len ≤ length l.fn.buf;
  grown : GrownBody (passage g.I.Read.remaining l.fn.reader l.reader) (take l.from l.fn.buf) (take l.len l.buf);
}

abbrev pub decreases-loop-len : goal.decreases-loop-len
decreases-loop-len g l = length l.fn.buf - l.len
