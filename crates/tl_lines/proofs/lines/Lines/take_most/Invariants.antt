use Rattle.std.proofs.Common.{◌≡◌, length, map, vec_items}
use Rattle.tl_device.specs.Device.{passage}
use Rattle.tl_lines.specs.Reading.{TellsOf, all_entries}
use Rattle.tl_lines.proofs.lines.Lines.take_most.Given as goal

-- the lines so far were reported
abbrev pub invariant-loop-line : goal.invariant-loop-line
invariant-loop-line g l = record {
  count : length l.lines.items ≡ l._line;
  first : length l.lines.items ≡ 0 → l.self ≡ l.initial.self;
  lines : TellsOf l.initial.self l.self (passage g.R.Read.remaining l.initial.reader l.reader) (all_entries (map vec_items l.lines.items));
}
