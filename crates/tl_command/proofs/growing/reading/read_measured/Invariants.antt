use Rattle.std.proofs.Common.{◌≡◌, ◌+◌, ◌-◌, ◌<◌, ◌≤◌}
use Rattle.std.specs.Prelude.{vec_len}
use Rattle.tl_command.proofs.MeasuringLemmas.{HasMeasured}
use Rattle.tl_command.proofs.growing.reading.read_measured.Given as goal

-- the bytes so far were consumed and taken, and the device has not failed in this call
abbrev pub invariant-loop-total : goal.invariant-loop-total
invariant-loop-total g l = record {
  so_far : HasMeasured (g.R.Read.remaining l.initial.reader.device) (g.R.Read.remaining l.reader.device) l.growing l.measuring l.total;
  steady : l.reader.failed ≡ l.initial.reader.failed;
  size : l.growing.edge.size ≤ l.total;
  bytes : l.measuring.bytes + l.measuring.begun ≤ l.total;
  few : l.measuring.count < 256;
  room : vec_len l.block ≡ 1048576;
}

abbrev pub decreases-loop-total : goal.decreases-loop-total
decreases-loop-total g l = 67108864 + 1 - l.total
