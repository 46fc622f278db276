use Rattle.std.proofs.Common.{◌≡◌, ◌≤◌, ◌++◌, map, vec_items, length}
use Rattle.tl_command.specs.Lines.{entries_of}
use Rattle.tl_command.proofs.entries.split_entries.Given as goal

-- the entries so far and those of the rest are the entries of the input, and the rest is no longer than it
abbrev pub invariant-loop-rest : goal.invariant-loop-rest
invariant-loop-rest g l = record {
  split : map vec_items l.entries.items ++ entries_of l.rest ≡ entries_of l.input;
  shorter : length l.rest ≤ length l.input;
}

abbrev pub decreases-loop-rest : goal.decreases-loop-rest
decreases-loop-rest g l = length l.rest
