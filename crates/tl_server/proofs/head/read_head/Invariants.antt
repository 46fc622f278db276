use Rattle.std.proofs.Common.{◌<◌, ◌≤◌, ◌-◌, take, false}
use Rattle.httparse.specs.Grammar.{HasNoRequest, MayBecomeRequest}
use Rattle.tl_device.specs.Device.{passage}
use Rattle.tl_device.specs.Reading.{Gave}
use Rattle.tl_server.proofs.head.read_head.Given as goal

-- the first bytes of the buffer were read, and begin with no head
abbrev pub invariant-loop-len : goal.invariant-loop-len
invariant-loop-len g l = record {
  within : l.len ≤ 8192;
  gave : Gave (passage g.I.Read.remaining l.fn.reader l.reader) (take l.len l.buf) false;
  none : HasNoRequest (take l.len l.buf);
  goes_on : 0 < l.len → MayBecomeRequest (take l.len l.buf);
}

abbrev pub decreases-loop-len : goal.decreases-loop-len
decreases-loop-len g l = 8192 - l.len
