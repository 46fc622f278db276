use Rattle.std.proofs.Common.{◌≤◌, length}
use Rattle.tl_command.proofs.growing.cuts.first_tiles.Given as goal

-- the place stands in the piece
abbrev pub invariant-loop-count : goal.invariant-loop-count
invariant-loop-count l = l.end ≤ length l.piece
