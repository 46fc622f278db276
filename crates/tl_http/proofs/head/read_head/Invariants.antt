use Rattle.std.proofs.Common.{◌≡◌, ◌+◌, ◌≤◌, ◌-◌, length, take, false}
use Rattle.tl_device.specs.Device.{passage}
use Rattle.tl_device.specs.Reading.{Gave}
use Rattle.tl_http.specs.Inner.Heads.{Passed}
use Rattle.tl_http.proofs.head.read_head.Given as goal

-- the first bytes of the buffer were read, and begin with the interim heads that were passed
abbrev pub invariant-heads : goal.invariant-heads
invariant-heads g l = record {
  whole : length l.buf ≡ 8192;
  ordered : l.start ≤ l.len;
  within : l.len ≤ 8192;
  gave : Gave (passage g.I.Read.remaining l.fn.reader l.reader) (take l.len l.buf) false;
  passed : Passed l.buf l.start l.len;
}

abbrev pub decreases-heads : goal.decreases-heads
decreases-heads g l = (8192 - l.start) + (8192 - l.len)
