use Rattle.std.proofs.Common.{◌+◌, ◌-◌, ◌^◌}
use Rattle.tl_device.specs.Device.{passage}
use Rattle.tl_logs.specs.Inner.Counting.{counts_of}
use Rattle.tl_logs.proofs.StateLaws.{HasCome}
use Rattle.tl_logs.proofs.state.read_counting.Given as goal

-- all that came was read
abbrev pub invariant-loop-count : goal.invariant-loop-count
invariant-loop-count g l = HasCome g.T.TreeHash.digest_of (counts_of l.counting) (passage g.R.Read.remaining l.initial.reader l.reader) l.count l.reading

abbrev pub decreases-loop-count : goal.decreases-loop-count
decreases-loop-count g l = 2 ^ 62 + 65536 - l.count
