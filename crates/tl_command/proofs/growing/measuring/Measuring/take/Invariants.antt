use Rattle.std.proofs.Common.{ℕ, ◌+◌, ◌-◌, ◌<◌, ◌≤◌, ◌++◌, List, length, take}
use Rattle.tl_command.specs.Inner.Measuring.{IsMeasuring}
use Rattle.tl_command.proofs.growing.measuring.Measuring.take.Given as goal

-- the piece was taken up to here
abbrev pub invariant-loop-at : goal.invariant-loop-at
invariant-loop-at g l = record {
  within : l.at ≤ length l.piece;
  few : l.self.count < 256;
  size : l.self.bytes + l.self.begun ≤ l.initial.self.bytes + l.initial.self.begun + l.at;
  measures : (input : List ℕ) → IsMeasuring l.initial.self input → IsMeasuring l.self (input ++ take l.at l.piece);
}

abbrev pub decreases-loop-at : goal.decreases-loop-at
decreases-loop-at g l = length l.piece - l.at
