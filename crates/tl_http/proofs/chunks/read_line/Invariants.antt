use Rattle.std.proofs.Common.{[], ◌-◌, length}
use Rattle.tl_device.specs.Device.{passage}
use Rattle.tl_http.specs.Inner.Taking.{Took}
use Rattle.tl_http.proofs.chunks.read_line.Given as goal

-- nothing was taken yet
abbrev pub invariant-loop-len : goal.invariant-loop-len
invariant-loop-len g l = Took (passage g.I.Read.remaining l.fn.reader l.reader) l.fn.window l.window []

abbrev pub decreases-loop-len : goal.decreases-loop-len
decreases-loop-len g l = 256 - length l.window
