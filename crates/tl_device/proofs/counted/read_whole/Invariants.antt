use Rattle.std.proofs.Common.{◌≡◌, ◌+◌, ◌-◌, vec_items, vec_len}
use Rattle.std.specs.Io.KnownBytes.{Consumes}
use Rattle.tl_device.proofs.counted.read_whole.Given as goal

-- the bytes so far were consumed, and the device has not failed in this call
abbrev pub invariant-loop-buf : goal.invariant-loop-buf
invariant-loop-buf g l = record {
  consumed : Consumes (g.R.Read.remaining l.initial.reader.device) (g.R.Read.remaining l.reader.device) (vec_items l.input);
  steady : l.reader.failed ≡ l.initial.reader.failed;
}

abbrev pub decreases-loop-buf : goal.decreases-loop-buf
decreases-loop-buf g l = l.most + 1 - vec_len l.input
