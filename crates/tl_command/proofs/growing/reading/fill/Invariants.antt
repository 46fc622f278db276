use Rattle.std.proofs.Common.{◌≡◌, ◌-◌, ◌≤◌, length, take}
use Rattle.std.specs.Io.KnownBytes.{Consumes}
use Rattle.tl_command.proofs.growing.reading.fill.Given as goal

-- the bytes up to here were read, and the device has not failed in this call
abbrev pub invariant-loop-at : goal.invariant-loop-at
invariant-loop-at g l = record {
  same : length l.buf ≡ length l.initial.buf;
  within : l.at ≤ length l.buf;
  consumed : Consumes (g.R.Read.remaining l.initial.reader.device) (g.R.Read.remaining l.reader.device) (take l.at l.buf);
  steady : l.reader.failed ≡ l.initial.reader.failed;
}

abbrev pub decreases-loop-at : goal.decreases-loop-at
decreases-loop-at g l = length l.buf - l.at
