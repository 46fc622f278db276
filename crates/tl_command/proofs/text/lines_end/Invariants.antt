use Rattle.std.proofs.Common.{◌≤◌, length, take}
use Rattle.tl_command.specs.Inner.Cuts.{AreWholeLines}
use Rattle.tl_command.proofs.text.lines_end.Given as goal

-- this many lines stand before the place
abbrev pub invariant-loop-line : goal.invariant-loop-line
invariant-loop-line l = record {
  within : l.at ≤ length l.text;
  lines : AreWholeLines (take l.at l.text) l._line;
}
