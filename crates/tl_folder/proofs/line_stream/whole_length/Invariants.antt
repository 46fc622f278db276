use Rattle.std.proofs.Common.{◌+◌, ◌-◌, ◌^◌}
use Rattle.tl_device.specs.Device.{passage}
use Rattle.tl_folder.proofs.Fronts.{Measured}
use Rattle.tl_folder.proofs.line_stream.whole_length.Given as goal

-- this much of what came is whole lines
abbrev pub invariant-loop-count : goal.invariant-loop-count
invariant-loop-count g l = Measured (passage g.R.Read.remaining l.initial.reader l.reader) l.count l.whole

abbrev pub decreases-loop-count : goal.decreases-loop-count
decreases-loop-count g l = 2 ^ 62 + 65536 - l.count
