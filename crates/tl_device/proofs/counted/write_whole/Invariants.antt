use Rattle.std.proofs.Common.{◌≡◌, ◌≤◌, ◌-◌, length, take}
use Rattle.std.specs.Io.KnownBytes.{Appends}
use Rattle.tl_device.proofs.counted.write_whole.Given as goal

-- the text up to here was written, and the device has not failed in this call
abbrev pub invariant-loop-at : goal.invariant-loop-at
invariant-loop-at g l = record {
  within : l.at ≤ length l.text;
  appended : Appends (g.W.Write.contents l.initial.writer.device) (g.W.Write.contents l.writer.device) (take l.at l.text);
  steady : l.writer.failed ≡ l.initial.writer.failed;
}

abbrev pub decreases-loop-at : goal.decreases-loop-at
decreases-loop-at g l = length l.text - l.at
